-- What the steps of unification say of the ground solutions of a store.
use Rattle.std.specs.Prelude.{◌≡◌, ◌⊎◌, ◌<◌, ◌++◌, ◌==◌, ℕ, List, [], ◌∷◌, length, Bool, true, false, None, Some, slice_get, IsTrue}
use Rattle.calculus.specs.declared.sort.Sort.{Sort}
use Rattle.calculus.specs.declared.sort.Sort.TheVariants.{TermSort, MarkSort, StringSort}
use Rattle.store_theory.specs.Stores.{Cell, variable, Store, parts_of, has_sort_at, OccursIn, EndsAt, Solution, Solves}
use Rattle.store_theory.specs.Bindings.{IsEnd, SolvesPairs, part_pairs, are_alike}
use Rattle.term_store.specs.declared.cell.Head.{Head}
use Rattle.term_store.specs.declared.cell.Head.TheVariants.{Open, Fun, Eigen, New, Marks}
use Rattle.term_unify.specs.declared.compare.Step.{Step}
use Rattle.term_unify.specs.declared.compare.Step.TheVariants as step
use Rattle.term_unify.specs.declared.solve.Next.{Next}
use Rattle.term_unify.specs.declared.solve.Next.TheVariants as next

abbrev pub head_sort : Head → Sort
head_sort (Open sort) = sort
head_sort (Fun f) = TermSort
head_sort (Eigen p) = TermSort
head_sort (New p) = MarkSort
head_sort Marks = StringSort

abbrev pub is_open_head : Head → Bool
is_open_head (Open sort) = true
is_open_head (Fun f) = false
is_open_head (Eigen p) = false
is_open_head (New p) = false
is_open_head Marks = false

-- built cells of one kind and name
abbrev pub same_name : Head → Head → Bool
same_name (Fun f) (Fun g) = f.0 == g.0
same_name (Eigen p) (Eigen q) = p.0 == q.0
same_name (New p) (New q) = p.0 == q.0
same_name Marks Marks = true
same_name _ _ = false

-- v is an unbound variable, and r another cell of its sort at which bindings end
pub record IsBinding (s : Store) (v r : ℕ) : Type 0 where
  pub sort : Sort
  pub open_cell : slice_get s.cells v ≡ Some (variable sort None)
  pub same_sort : IsTrue (has_sort_at s sort r)
  pub end : IsEnd s r
  pub other : ¬ (v ≡ r)

-- built cells of one name and number of parts
pub record AreBuilt (s : Store) (a b : ℕ) : Type 0 where
  pub left : Cell
  pub right : Cell
  pub left_at : slice_get s.cells a ≡ Some left
  pub right_at : slice_get s.cells b ≡ Some right
  pub alike : are_alike left right ≡ true

-- the bindings of a and b end at these cells, in one of the two orders
abbrev pub AreEnds : Store → ℕ → ℕ → ℕ → ℕ → Type 0
AreEnds s a b v r = (EndsAt s a v × EndsAt s b r) ⊎ (EndsAt s b v × EndsAt s a r)

-- what a pair of cells comes to
abbrev pub IsStep : Store → ℕ → ℕ → Step → Type 0
IsStep s a b step.Same = (σ : Solution) → Solves s σ → σ a ≡ σ b
IsStep s a b step.Apart = (σ : Solution) → Solves s σ → ¬ (σ a ≡ σ b)
IsStep s a b (step.Bind v r) = IsBinding s v.0 r.0 × ((σ : Solution) → Solves s σ → (σ a ≡ σ b → σ v.0 ≡ σ r.0) × (σ v.0 ≡ σ r.0 → σ a ≡ σ b)) × AreEnds s a b v.0 r.0
IsStep s a b (step.Parts c d) = AreBuilt s c.0 d.0 × EndsAt s a c.0 × EndsAt s b d.0

-- the pairs of the parts of a and b came to the others
abbrev pub AddsParts : Store → ℕ → ℕ → List (ℕ × ℕ) → List (ℕ × ℕ) → Type 0
AddsParts s a b before after = (c d : Cell) → slice_get s.cells a ≡ Some c → slice_get s.cells b ≡ Some d → after ≡ before ++ part_pairs (parts_of c) (parts_of d)

-- each side of each pair is a cell
abbrev pub AreCells : Store → List (ℕ × ℕ) → Type 0
AreCells s [] = Unit {0}
AreCells s (p ∷ ps) = (p.0 < length s.cells) × (p.1 < length s.cells) × AreCells s ps

-- v occurs in a side of one of the pairs
abbrev pub OccursInPairs : Store → ℕ → List (ℕ × ℕ) → Type 0
OccursInPairs s v [] = ⊥
OccursInPairs s v (p ∷ ps) = (OccursIn s v p.0 ⊎ OccursIn s v p.1) ⊎ OccursInPairs s v ps

-- what occurs in the pairs that are left occurs in the first ones
abbrev pub OccursBefore : Store → List (ℕ × ℕ) → List (ℕ × ℕ) → Type 0
OccursBefore s first left = (v : ℕ) → OccursInPairs s v left → OccursInPairs s v first

-- what was bound occurs in the pairs, and so does what it was bound to
abbrev pub BindsInPairs : List (ℕ × ℕ) → Store → Store → Type 0
BindsInPairs ps before after = (v k : ℕ) (sort : Sort) → slice_get before.cells v ≡ Some (variable sort None) → slice_get after.cells v ≡ Some (variable sort (Some k)) → OccursInPairs before v ps × OccursInPairs before k ps

-- what pairs come to: each solution solves them, none does, or those do that make v and r equal and solve the other pairs
abbrev pub IsNext : Store → List (ℕ × ℕ) → List (ℕ × ℕ) → Next → Type 0
IsNext s ps qs next.Done = (σ : Solution) → Solves s σ → SolvesPairs σ ps
IsNext s ps qs next.Apart = (σ : Solution) → Solves s σ → ¬ SolvesPairs σ ps
IsNext s ps qs (next.Bind v r) = IsBinding s v.0 r.0 × ((σ : Solution) → Solves s σ → (SolvesPairs σ ps → (σ v.0 ≡ σ r.0) × SolvesPairs σ qs) × ((σ v.0 ≡ σ r.0) × SolvesPairs σ qs → SolvesPairs σ ps)) × OccursBefore s ps ((v.0, r.0) ∷ qs)

-- v occurs in one of the cells
abbrev pub OccursAmong : Store → ℕ → List ℕ → Type 0
OccursAmong s v [] = ⊥
OccursAmong s v (r ∷ rs) = OccursIn s v r ⊎ OccursAmong s v rs

-- qs are the ends of the bindings of some of rs, in their order, and none of them is v; in the others of rs v does not occur
abbrev pub AreInner : Store → ℕ → List ℕ → List ℕ → Type 0
AreInner s v [] qs = qs ≡ []
AreInner s v (r ∷ rs) qs = ((¬ OccursIn s v r) × AreInner s v rs qs) ⊎ ((e : ℕ) × (more : List ℕ) × (qs ≡ e ∷ more) × EndsAt s r e × (¬ (e ≡ v)) × AreInner s v rs more)

-- the ends of the parts of r in which v may occur came to the others
abbrev pub AddsInner : Store → ℕ → ℕ → List ℕ → List ℕ → Type 0
AddsInner s v r before after = (c : Cell) → slice_get s.cells r ≡ Some c → (qs : List ℕ) × (after ≡ before ++ qs) × AreInner s v (parts_of c) qs

abbrev pub AreAllCells : Store → List ℕ → Type 0
AreAllCells s [] = Unit {0}
AreAllCells s (r ∷ rs) = (r < length s.cells) × AreAllCells s rs

-- the ground solutions after are those before that solve the pairs
abbrev pub SolvesAll : Store → Store → List (ℕ × ℕ) → Type 0
SolvesAll before after ps = (σ : Solution) → (Solves after σ → Solves before σ × SolvesPairs σ ps) × (Solves before σ × SolvesPairs σ ps → Solves after σ)

-- whatever makes a and b equal makes the unbound variable v, which occurs in them, equal to another cell r at which bindings end
pub record DiffersBy (s : Store) (a b v r : ℕ) : Type 0 where
  pub binding : IsBinding s v r
  pub forces : (σ : Solution) → Solves s σ → σ a ≡ σ b → σ v ≡ σ r
  pub occurs : OccursIn s v a ⊎ OccursIn s v b

-- the bindings do not make a and b equal: no solution does, or only those that bind more
abbrev pub AreDifferent : Store → ℕ → ℕ → Type 0
AreDifferent s a b = ((σ : Solution) → Solves s σ → ¬ (σ a ≡ σ b)) ⊎ ((v : ℕ) × (r : ℕ) × DiffersBy s a b v r)
