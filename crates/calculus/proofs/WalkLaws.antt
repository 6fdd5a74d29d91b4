-- Where each instance of a closed tableau has a literal in a set, the set has a complementary pair.
use Rattle.std.proofs.Common.{◌≡◌, ◌⊎◌, ℕ, zero, suc, List, [], ◌∷◌, length, ◌&&◌, Option, Some, None, IsTrue, refl, sym, ◌∙◌, subst, inl, inr, slice_get, remove, nat_lt}
use Rattle.std.specs.List.{AllByRecursion, list_all}
use Rattle.std.proofs.lemmas.Bool.{and_parts, false≢true}
use Rattle.plain_laws.proofs.Every.{each-parts}
use Rattle.plain_laws.proofs.Options.{none_some, some_injective}
use Rattle.calculus.specs.Syntax.{Problem}
use Rattle.calculus.specs.Ground.{GroundLiteral}
use Rattle.calculus.specs.Instances.{ClauseInstance}
use Rattle.calculus.specs.ComputedInstances.{is_allowed_instance}
use Rattle.calculus.specs.Tableaux.{Closing, Closings, reduce, extend, no_closings, more_closings, Tableau, are_complementary, is_complement, ancestor, is_new_on, closes, closes_all, instances_below, instances_of_all, instances, is_shown, is_short, is_closed}

-- some element is in S
abbrev pub SomeIn : (GroundLiteral → Type 0) → List GroundLiteral → Type 0
SomeIn S [] = ⊥
SomeIn S (x ∷ xs) = S x ⊎ SomeIn S xs

-- the instance has a literal in S
abbrev pub Hits : (GroundLiteral → Type 0) → ClauseInstance → Type 0
Hits S i = SomeIn S i.literals

-- two literals of S are complementary
abbrev pub HasPair : (GroundLiteral → Type 0) → Type 0
HasPair S = (a : GroundLiteral) × (b : GroundLiteral) × S a × S b × IsTrue (are_complementary a b)

-- the literal at a place is in S, or one of the others is
pub SomeIn-remove : (S : GroundLiteral → Type 0) (xs : List GroundLiteral) (k : ℕ) → SomeIn S xs → ((x : GroundLiteral) × (slice_get xs k ≡ Some x) × S x) ⊎ SomeIn S (remove xs k)
SomeIn-remove S [] k h = elim h [ ]
SomeIn-remove S (x ∷ xs) zero (inl s) = inl (x, refl, s)
SomeIn-remove S (x ∷ xs) zero (inr h) = inr h
SomeIn-remove S (x ∷ xs) (suc k) (inl s) = inr (inl s)
SomeIn-remove S (x ∷ xs) (suc k) (inr h) = later (SomeIn-remove S xs k h)
  where
    later : ((y : GroundLiteral) × (slice_get xs k ≡ Some y) × S y) ⊎ SomeIn S (remove xs k) → ((y : GroundLiteral) × (slice_get xs k ≡ Some y) × S y) ⊎ (S x ⊎ SomeIn S (remove xs k))
    later (inl p) = inl p
    later (inr q) = inr (inr q)

pub slice_get-All : (S : GroundLiteral → Type 0) (path : List GroundLiteral) (k : ℕ) (x : GroundLiteral) → AllByRecursion S path → slice_get path k ≡ Some x → S x
slice_get-All S [] k x h e = absurd (none_some e)
slice_get-All S (y ∷ ys) zero x h e = subst S (some_injective y e) h.0
slice_get-All S (y ∷ ys) (suc k) x h e = slice_get-All S ys k x h.1 e

-- a complement of the goal in S, where the option's value is in S
pub pair_from : (S : GroundLiteral → Type 0) (goal : GroundLiteral) (o : Option GroundLiteral) → S goal → ((x : GroundLiteral) → o ≡ Some x → S x) → IsTrue (is_complement goal o) → HasPair S
pair_from S goal None g h e = absurd (false≢true e)
pair_from S goal (Some x) g h e = (goal, x, g, h x refl, e)

pub ancestor-All : (S : GroundLiteral → Type 0) (path : List GroundLiteral) (up : ℕ) (x : GroundLiteral) → AllByRecursion S path → ancestor path up ≡ Some x → S x
ancestor-All S path zero x h e = absurd (none_some e)
ancestor-All S path (suc k) x h e = slice_get-All S path k x h e

-- the place holds only this literal
place_in : (S : GroundLiteral → Type 0) (xs : List GroundLiteral) (k : ℕ) (y : GroundLiteral) → slice_get xs k ≡ Some y → S y → (x : GroundLiteral) → slice_get xs k ≡ Some x → S x
place_in S xs k y e s x f = subst S (some_injective y (sym e ∙ f)) s

mutual
  pub walk : (S : GroundLiteral → Type 0) (P : Problem) (d : ℕ) (c : Closing) (path : List GroundLiteral) (goal : GroundLiteral) → IsTrue (closes P d path goal c) → AllByRecursion S path → S goal → AllByRecursion (Hits S) (instances_below c) → HasPair S
  walk S P d (reduce up) path goal h on_path g hits =
      let parts = and_parts (is_new_on path goal) (is_complement goal (ancestor path up)) h in
      pair_from S goal (ancestor path up) g (λ x e. ancestor-All S path up x on_path e) parts.1
  walk S P d (extend i place below) path goal h on_path g hits =
      let before = is_new_on path goal && nat_lt (length path) d && is_allowed_instance P i in
      let outer = and_parts (before && is_complement goal (slice_get i.literals place)) (closes_all P d (goal ∷ path) (remove i.literals place) below) h in
      let inner = and_parts before (is_complement goal (slice_get i.literals place)) outer.0 in
      elim (SomeIn-remove S i.literals place hits.0) [
        | inl p ↦ pair_from S goal (slice_get i.literals place) g (place_in S i.literals place p.0 p.1 p.2) inner.1
        | inr q ↦ walk_all S P d below (goal ∷ path) (remove i.literals place) outer.1 (g, on_path) q hits.1
      ]

  pub walk_all : (S : GroundLiteral → Type 0) (P : Problem) (d : ℕ) (cs : Closings) (path goals : List GroundLiteral) → IsTrue (closes_all P d path goals cs) → AllByRecursion S path → SomeIn S goals → AllByRecursion (Hits S) (instances_of_all cs) → HasPair S
  walk_all S P d no_closings path [] h on_path some hits = elim some [ ]
  walk_all S P d no_closings path (x ∷ xs) h on_path some hits = absurd (false≢true h)
  walk_all S P d (more_closings c cs) path [] h on_path some hits = elim some [ ]
  walk_all S P d (more_closings c cs) path (x ∷ xs) h on_path some hits =
      let parts = and_parts (closes P d path x c) (closes_all P d path xs cs) h in
      let each = each-parts (Hits S) (instances_below c) (instances_of_all cs) hits in
      elim some [
        | inl s ↦ walk S P d c path x parts.0 on_path s each.0
        | inr q ↦ walk_all S P d cs path xs parts.1 on_path q each.1
      ]

-- the walk from the start
pub pair_of_closed : (S : GroundLiteral → Type 0) (P : Problem) (d : ℕ) (t : Tableau) → IsTrue (is_closed P d t) → AllByRecursion (Hits S) (instances t) → HasPair S
pair_of_closed S P d t h hits =
    let started = is_allowed_instance P t.start && list_all is_shown t.start.literals in
    let outer = and_parts (started && closes_all P d [] t.start.literals t.goals) (is_short P t) h in
    let inner = and_parts started (closes_all P d [] t.start.literals t.goals) outer.0 in
    walk_all S P d t.goals [] t.start.literals inner.1 tt hits.0 hits.1
