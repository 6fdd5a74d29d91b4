-- How far a search at one limit has come: the members of the space for which a step was spent, in order, and the beginnings of choice
-- lists that are still to be tried, in order. What is not behind one of these has been ruled out.
use Rattle.std.specs.Prelude.{◌≡◌, ◌⊎◌, ℕ, ◌+◌, List, [], ◌∷◌, ◌++◌, map, ◌&&◌, Some, slice_get, IsTrue, ⊤}
use Rattle.std.specs.List.{AllByRecursion}
use Rattle.std.specs.declared.cmp.Ordering.TheVariants.{Less}
use Rattle.calculus.specs.Syntax.{Problem}
use Rattle.calculus.specs.Tableaux.{Tableau, is_closed}
use Rattle.calculus.specs.Choices.{Choice, GroundChoice, choices_of, ground_choices, choice_cmp, Growth, growth_of, is_within, has_depth, is_regular}
use Rattle.calculus.specs.Counting.{IsRising}
use Rattle.calculus.specs.Space.{Member, with_choices, limit_of, IsMember, member_cmp}

-- the list b begins with p
abbrev pub BeginsWith : List Choice → List Choice → Type 0
BeginsWith p b = (more : List Choice) × (b ≡ p ++ more)

-- it begins with one of these lists
abbrev pub BeginsWithOne : List (List Choice) → List Choice → Type 0
BeginsWithOne [] b = ⊥
BeginsWithOne (p ∷ ps) b = BeginsWith p b ⊎ BeginsWithOne ps b

-- behind a common beginning p takes an earlier choice than q. So does then each list that begins with p, against each that begins with q
pub record PartsBefore (p q : List Choice) : Type 0 where
  pub common : List Choice
  pub earlier : Choice
  pub later : Choice
  pub rest_before : List Choice
  pub rest_after : List Choice
  pub is_before : p ≡ common ++ earlier ∷ rest_before
  pub is_after : q ≡ common ++ later ∷ rest_after
  pub less : choice_cmp earlier later ≡ Less

-- each list parts before the next one
abbrev pub PartInOrder : List (List Choice) → Type 0
PartInOrder [] = ⊤
PartInOrder (p ∷ []) = ⊤
PartInOrder (p ∷ q ∷ ps) = PartsBefore p q × PartInOrder (q ∷ ps)

-- each list of which W holds begins with one of these
abbrev pub Covers : (List Choice → Type 0) → List (List Choice) → Type 0
Covers W pending = (b : List Choice) → W b → BeginsWithOne pending b

-- the choice list of a tableau that is closed within d
abbrev pub IsClosedList : Problem → ℕ → List Choice → Type 0
IsClosedList P d b = (t : Tableau) × IsTrue (is_closed P d t) × (choices_of (ground_choices t) ≡ b)

-- the choice list of a tree that shows that d is left
abbrev pub IsLeftList : Problem → ℕ → List Choice → Type 0
IsLeftList P d b = (gs : List GroundChoice) × (x : Growth) × (growth_of P gs ≡ Some x) × IsTrue (is_within (d + 1) x && has_depth d x && is_regular x) × (choices_of gs ≡ b)

-- a member of the space with the limit d
pub record IsMemberAt (P : Problem) (d : ℕ) (m : Member) : Type 0 where
  pub member : IsMember P d m
  pub limit : limit_of m ≡ d

-- the search at the limit d has spent a step for each of these members, and each tableau closed within d has a list behind a pending one
pub record Explores (P : Problem) (d : ℕ) (spent : List Member) (pending : List (List Choice)) : Type 0 where
  pub members : AllByRecursion (IsMemberAt P d) spent
  pub rising : IsRising member_cmp (spent ++ map (with_choices d) pending)
  pub parted : PartInOrder pending
  pub covers : Covers (IsClosedList P d) pending

-- each list parts before all behind it
abbrev pub AllPart : List (List Choice) → Type 0
AllPart [] = ⊤
AllPart (p ∷ ps) = AllByRecursion (PartsBefore p) ps × AllPart ps

-- a search at the limit d has spent a step for each of these members, and these lists come next, in order. Nothing is said of what it
-- left out
pub record Passes (P : Problem) (d : ℕ) (spent : List Member) (pending : List (List Choice)) : Type 0 where
  pub members : AllByRecursion (IsMemberAt P d) spent
  pub rising : IsRising member_cmp spent
  pub before : AllByRecursion (λ (p : List Choice). IsRising member_cmp (spent ++ with_choices d p ∷ [])) pending
  pub parted : AllPart pending

-- one more choice behind a list, for each of these choices
abbrev pub behind : List Choice → List Choice → List (List Choice)
behind p xs = map (λ x. p ++ x ∷ []) xs

abbrev pub IsIn : {A : Type 0} → A → List A → Type 0
IsIn x xs = (k : ℕ) × (slice_get xs k ≡ Some x)
