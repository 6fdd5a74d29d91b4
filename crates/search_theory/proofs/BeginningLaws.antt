-- The beginnings of the choice list of a tree grow trees; what is refused or irregular at a beginning is so behind it.
use Rattle.std.proofs.Common.{◌≡◌, ℕ, ◌+◌, List, [], ◌∷◌, ◌++◌, ◌&&◌, IsTrue, refl, sym, ◌∙◌, ap, ap₂, subst, Option, Some, None, option_and_then, nat_lt}
use Rattle.std.specs.List.{list_all}
use Rattle.std.proofs.lemmas.Bool.{false≢true, and_parts}
use Rattle.plain_laws.proofs.Every.{all-parts}
use Rattle.plain_laws.proofs.Options.{same-some, then-some}
use Rattle.calculus.specs.Syntax.{Problem}
use Rattle.calculus.specs.Tableaux.{is_new_on}
use Rattle.calculus.specs.Choices.{start, reduction, extension, Choice, GroundChoice, choices_of, ground_choices, Goal, Growth, after_start, grow_at, grow, growth_of, is_within, is_regular, has_depth}
use Rattle.calculus.proofs.GrowthLaws.{closed_growth, grown-closed, within-closed, regular-closed}
use Rattle.search_theory.specs.States.{State, IsStateOf, growth_at}
use Rattle.search_theory.specs.Regular.{HasSamePair}
use Rattle.search_theory.specs.Exploring.{BeginsWith, IsClosedList, IsLeftList}
use Rattle.search_theory.proofs.LastChoice.{tail_of, head_of}
use Rattle.search_theory.proofs.ClosedLaws.{Keeps, keeps-all}
use Rattle.search_theory.proofs.RegularLaws.{irregular-same}
use Rattle.search_theory.specs.DeadEnds.{IsDead, irregular, is_not_empty, refused}

-- ---- growth along two lists

grow-append : (P : Problem) (cs ks : List GroundChoice) (x : Growth) → grow P (cs ++ ks) x ≡ option_and_then (grow P ks) (grow P cs x)
grow-append P [] ks x = refl
grow-append P (c ∷ cs) ks x = by (grow_at P c x.open_goals x) (grow-append P cs ks)
  where
    by : (o : Option Growth) → ((y : Growth) → grow P (cs ++ ks) y ≡ option_and_then (grow P ks) (grow P cs y)) → option_and_then (grow P (cs ++ ks)) o ≡ option_and_then (grow P ks) (option_and_then (grow P cs) o)
    by None h = refl
    by (Some y) h = h y

started-append : (P : Problem) (cs ks : List GroundChoice) (o : Option Growth) → option_and_then (grow P (cs ++ ks)) o ≡ option_and_then (grow P ks) (option_and_then (grow P cs) o)
started-append P cs ks None = refl
started-append P cs ks (Some x) = grow-append P cs ks x

pub growth-append : (P : Problem) (c : GroundChoice) (cs ks : List GroundChoice) → growth_of P ((c ∷ cs) ++ ks) ≡ option_and_then (grow P ks) (growth_of P (c ∷ cs))
growth-append P (start i) cs ks = started-append P cs ks (after_start P i)
growth-append P (reduction up) cs ks = refl
growth-append P (extension i place) cs ks = refl

-- ---- beginnings

pub record SplitAt (gs : List GroundChoice) (p more : List Choice) : Type 0 where
  pub first : List GroundChoice
  pub second : List GroundChoice
  pub all_of_them : gs ≡ first ++ second
  pub first_names : choices_of first ≡ p
  pub second_names : choices_of second ≡ more

pub split-at : (gs : List GroundChoice) (p more : List Choice) → choices_of gs ≡ p ++ more → SplitAt gs p more
split-at gs [] more e = record { first = []; second = gs; all_of_them = refl; first_names = refl; second_names = e }
split-at [] (x ∷ p) more e = cc e
split-at (g ∷ gs) (x ∷ p) more e =
    let s = split-at gs p more (ap tail_of e) in
    record { first = g ∷ s.first; second = s.second; all_of_them = ap (λ xs. g ∷ xs) s.all_of_them; first_names = ap₂ (λ a b. a ∷ b) (ap (head_of x) e) s.first_names; second_names = s.second_names }

-- the tree that a beginning grows
pub record Beginning (P : Problem) (p : List Choice) (x : Growth) : Type 0 where
  pub choices : List GroundChoice
  pub growth : Growth
  pub names : choices_of choices ≡ p
  pub grows : growth_of P choices ≡ Some growth
  pub keeps : Keeps growth x

pub beginning : (P : Problem) (gs : List GroundChoice) (x : Growth) (p more : List Choice) → IsTrue (is_not_empty p) → growth_of P gs ≡ Some x → choices_of gs ≡ p ++ more → Beginning P p x
beginning P gs x p more n g e =
    let s = split-at gs p more e in
    by s.first s.second (ap (growth_of P) (sym s.all_of_them) ∙ g) s.first_names
  where
    by : (first second : List GroundChoice) → growth_of P (first ++ second) ≡ Some x → choices_of first ≡ p → Beginning P p x
    by [] second h names = absurd (false≢true (ap is_not_empty names ∙ n))
    by (c ∷ cs) second h names =
        let (y, first_grows, rest) = then-some (grow P second) (growth_of P (c ∷ cs)) x (sym (growth-append P c cs second) ∙ h) in
        record { choices = c ∷ cs; growth = y; names = names; grows = first_grows; keeps = keeps-all P second y x rest }

-- what is kept is regular and within the limit
pub regular-kept : (x y : Growth) → Keeps x y → IsTrue (is_regular y) → IsTrue (is_regular x)
regular-kept x y k r = (all-parts (λ (g : Goal). is_new_on g.path g.literal) x.all_goals k.more_goals (subst (λ gs. IsTrue (list_all (λ (g : Goal). is_new_on g.path g.literal) gs)) k.goals r)).0

pub within-kept : (d : ℕ) (x y : Growth) → Keeps x y → IsTrue (is_within d y) → IsTrue (is_within d x)
within-kept d x y k w = (all-parts (λ n. nat_lt n d) x.depths k.more_depths (subst (λ ns. IsTrue (list_all (λ n. nat_lt n d) ns)) k.depths w)).0

-- a beginning of the list of a closed tableau: live, and by a regular tree
pub record ClosedBeginning (P : Problem) (d : ℕ) (p : List Choice) : Type 0 where
  pub choices : List GroundChoice
  pub growth : Growth
  pub names : choices_of choices ≡ p
  pub grows : growth_of P choices ≡ Some growth
  pub within : IsTrue (is_within d growth)
  pub regular : IsTrue (is_regular growth)

pub closed-beginning : (P : Problem) (d : ℕ) (p b : List Choice) → IsTrue (is_not_empty p) → IsClosedList P d b → BeginsWith p b → ClosedBeginning P d p
closed-beginning P d p b n (t, c, e) (more, q) =
    let k = beginning P (ground_choices t) (closed_growth t) p more n (grown-closed P d t c) (e ∙ q) in
    record { choices = k.choices; growth = k.growth; names = k.names; grows = k.grows; within = within-kept d k.growth (closed_growth t) k.keeps (within-closed P d t c); regular = regular-kept k.growth (closed_growth t) k.keeps (regular-closed P d t c) }

-- a beginning of the list of a tree that shows that d is left
pub record LeftParts (d : ℕ) (x : Growth) : Type 0 where
  pub within : IsTrue (is_within (d + 1) x)
  pub depth : IsTrue (has_depth d x)
  pub regular : IsTrue (is_regular x)

pub left-parts : (d : ℕ) (x : Growth) → IsTrue (is_within (d + 1) x && has_depth d x && is_regular x) → LeftParts d x
left-parts d x h =
    let p = and_parts (is_within (d + 1) x && has_depth d x) (is_regular x) h in
    let q = and_parts (is_within (d + 1) x) (has_depth d x) p.0 in
    record { within = q.0; depth = q.1; regular = p.1 }

pub left-beginning : (P : Problem) (d : ℕ) (p b : List Choice) → IsTrue (is_not_empty p) → IsLeftList P d b → BeginsWith p b → ClosedBeginning P (d + 1) p
left-beginning P d p b n (gs, x, g, h, e) (more, q) =
    let k = beginning P gs x p more n g (e ∙ q) in
    let l = left-parts d x h in
    record { choices = k.choices; growth = k.growth; names = k.names; grows = k.grows; within = within-kept (d + 1) k.growth x k.keeps l.within; regular = regular-kept k.growth x k.keeps l.regular }

-- ---- dead ends

pub dead-regular : (P : Problem) (d : ℕ) (p : List Choice) → IsDead P p → ¬ ClosedBeginning P d p
dead-regular P d p (refused h) k = h (k.choices, k.growth, k.names, k.grows)
dead-regular P d p (irregular h) k = false≢true (sym (h k.choices k.growth k.names k.grows) ∙ k.regular)

-- no closed tableau, and no tree that shows that the limit is left, is behind a dead end
pub no-closed-dead : (P : Problem) (d : ℕ) (p : List Choice) → IsTrue (is_not_empty p) → IsDead P p → (b : List Choice) → IsClosedList P d b → ¬ BeginsWith p b
no-closed-dead P d p n h b c k = dead-regular P d p h (closed-beginning P d p b n c k)

pub no-left-dead : (P : Problem) (d : ℕ) (p : List Choice) → IsTrue (is_not_empty p) → IsDead P p → (b : List Choice) → IsLeftList P d b → ¬ BeginsWith p b
no-left-dead P d p n h b c k = dead-regular P (d + 1) p h (left-beginning P d p b n c k)

-- a state with a same pair is a dead end
pub dead-same : (P : Problem) (d : ℕ) (p : List Choice) (S : State) → IsStateOf P d p S → HasSamePair S → IsDead P p
dead-same P d p S h pair = irregular (λ gs x e g.
    let (σ, ground, image) = h.complete gs x e g in
    let same : x ≡ growth_at σ S.growth = same-some (growth_of P gs) x (growth_at σ S.growth) g (ap (growth_of P) (sym image) ∙ h.sound σ ground) in
    ap is_regular same ∙ irregular-same S pair σ ground.solves)

-- ---- the next choice behind a state

-- one more choice: the tree that follows it
pub record NextChoice (P : Problem) (d : ℕ) (p b : List Choice) : Type 0 where
  pub choice : Choice
  pub more : List Choice
  pub is_list : b ≡ p ++ choice ∷ more
  pub next : ClosedBeginning P d (p ++ choice ∷ [])

pub not-empty-behind : (p : List Choice) (x : Choice) → IsTrue (is_not_empty (p ++ x ∷ []))
not-empty-behind [] x = refl
not-empty-behind (y ∷ p) x = refl
