-- What the calls of a store do to it: a cell more, a binding more; ranks, which show that the bindings have no cycle; and what unification
-- promises of ground solutions.
use Rattle.std.specs.Prelude.{◌≡◌, ◌⊎◌, ◌==◌, ◌&&◌, ℕ, suc, zero, ◌<◌, ◌≤◌, List, [], ◌∷◌, ◌++◌, length, Bool, true, false, Some, None, slice_get, IsTrue, nat_le}
use Rattle.std.specs.List.{list_all}
use Rattle.calculus.specs.declared.sort.Sort.{Sort}
use Rattle.store_theory.specs.Stores.{Cell, variable, fun_cell, eigen_cell, new_cell, string_cell, Store, TrailMark, is_store, parts_fit, parts_of, has_sort_at, is_bound, OccursIn, EndsAt, cut_at, IsGood, Solution, Solves}

-- the store with one more cell
abbrev pub with_cell : Cell → Store → Store
with_cell c s = record { cells = s.cells ++ c ∷ []; trail = s.trail }

-- the store with one unbound variable of each sort more
abbrev pub with_variables_of : List Sort → Store → Store
with_variables_of [] s = s
with_variables_of (sort ∷ sorts) s = with_variables_of sorts (with_cell (variable sort None) s)

-- so many places, the first one being n
abbrev pub places_from : ℕ → ℕ → List ℕ
places_from n zero = []
places_from n (suc k) = n ∷ places_from (suc n) k

abbrev pub bound_to : ℕ → Cell → Cell
bound_to r (variable sort b) = variable sort (Some r)
bound_to r (fun_cell f rs) = fun_cell f rs
bound_to r (eigen_cell p rs) = eigen_cell p rs
bound_to r (new_cell p rs) = new_cell p rs
bound_to r (string_cell rs) = string_cell rs

-- the cells, of which that at the place v is bound to r
abbrev pub bind_at : ℕ → ℕ → List Cell → List Cell
bind_at v r [] = []
bind_at zero r (c ∷ cs) = bound_to r c ∷ cs
bind_at (suc v) r (c ∷ cs) = c ∷ bind_at v r cs

-- the store with the variable v bound to r
abbrev pub with_binding : ℕ → ℕ → Store → Store
with_binding v r s = record { cells = bind_at v r s.cells; trail = s.trail ++ v ∷ [] }

-- v is an unbound variable, and r a cell of its sort in which it does not occur: v may be bound to r
pub record MayBind (s : Store) (v r : ℕ) : Type 0 where
  pub sort : Sort
  pub open_cell : slice_get s.cells v ≡ Some (variable sort None)
  pub same_sort : IsTrue (has_sort_at s sort r)
  pub no_cycle : ¬ OccursIn s v r

-- the cell at which the bindings of r end is one of which P holds
abbrev pub EndsIn : Store → ℕ → (Cell → Type 0) → Type 0
EndsIn s r P = (v : ℕ) × (c : Cell) × EndsAt s r v × (slice_get s.cells v ≡ Some c) × P c

-- each cell has a greater rank than the cells that it names
abbrev pub IsRanked : Store → (ℕ → ℕ) → Type 0
IsRanked s rank = (i r k : ℕ) (c : Cell) → slice_get s.cells r ≡ Some c → slice_get (parts_of c) i ≡ Some k → rank k < rank r

-- no cell leads back to itself
abbrev pub HasRank : Store → Type 0
HasRank s = (rank : ℕ → ℕ) × IsRanked s rank

-- a store whose cells, bindings and trail are in order, and which has no cycle
pub record IsWellFormed (s : Store) : Type 0 where
  pub fits : IsTrue (is_store s)
  pub rank : HasRank s

-- a cell without a binding stands there
abbrev pub IsEnd : Store → ℕ → Type 0
IsEnd s v = (c : Cell) × (slice_get s.cells v ≡ Some c) × (is_bound c ≡ false)

-- neither number of k is above that of m
pub record IsEarlier (k m : TrailMark) : Type 0 where
  pub cells : k.cells ≤ m.cells
  pub entries : k.entries ≤ m.entries

-- a mark that is good stays so, with its cut
abbrev pub KeepsMarks : Store → Store → Type 0
KeepsMarks before after = (m : TrailMark) → IsGood m before → IsGood m after × (cut_at m after ≡ cut_at m before)

-- so do the marks that are not later than this one
abbrev pub KeepsEarlier : TrailMark → Store → Store → Type 0
KeepsEarlier m before after = (k : TrailMark) → IsEarlier k m → IsGood k before → IsGood k after × (cut_at k after ≡ cut_at k before)

-- the ground solutions after are those before that make a and b equal, and there is one
abbrev pub Unifies : ℕ → ℕ → Store → Store → Type 0
Unifies a b before after = ((σ : Solution) → (Solves after σ → Solves before σ × (σ a ≡ σ b)) × (Solves before σ → σ a ≡ σ b → Solves after σ)) × ((σ : Solution) × Solves after σ)

-- no ground solution makes a and b equal
abbrev pub AreApart : ℕ → ℕ → Store → Type 0
AreApart a b s = (σ : Solution) → Solves s σ → ¬ (σ a ≡ σ b)

-- σ gives both cells of each pair one value
abbrev pub SolvesPairs : Solution → List (ℕ × ℕ) → Type 0
SolvesPairs σ [] = Unit {0}
SolvesPairs σ (p ∷ ps) = (σ p.0 ≡ σ p.1) × SolvesPairs σ ps

-- the first parts, the second parts, and so on
abbrev pub part_pairs : List ℕ → List ℕ → List (ℕ × ℕ)
part_pairs (r ∷ rs) (q ∷ qs) = (r, q) ∷ part_pairs rs qs
part_pairs _ _ = []

-- built cells of one name and number of parts
abbrev pub are_alike : Cell → Cell → Bool
are_alike (fun_cell f rs) (fun_cell g qs) = f == g && length rs == length qs
are_alike (eigen_cell p rs) (eigen_cell q qs) = p == q && length rs == length qs
are_alike (new_cell p rs) (new_cell q qs) = p == q && length rs == length qs
are_alike (string_cell rs) (string_cell qs) = length rs == length qs
are_alike _ _ = false

abbrev pub is_variable : Cell → Bool
is_variable (variable sort b) = true
is_variable _ = false

-- built cells came one by one, each after its parts
pub data AddsBuilt : Store → Store → Type 0 where
  nothing_more : {s : Store} → AddsBuilt s s
  one_more : {s t : Store} (c : Cell) → IsTrue (is_store s) → IsTrue (parts_fit s c) → is_variable c ≡ false → AddsBuilt (with_cell c s) t → AddsBuilt s t

-- nothing but bindings of unbound variables came to the cells
pub record BindsOnly (before after : Store) : Type 0 where
  pub same_length : length after.cells ≡ length before.cells
  pub cells : (n : ℕ) (c : Cell) → slice_get before.cells n ≡ Some c → (slice_get after.cells n ≡ Some c) ⊎ ((sort : Sort) × (r : ℕ) × (c ≡ variable sort None) × (slice_get after.cells n ≡ Some (variable sort (Some r))))

-- cells came, none of them an unbound variable; what was there is as before
pub record AddsBound (before after : Store) : Type 0 where
  pub more : List Cell
  pub cells : after.cells ≡ before.cells ++ more
  pub bound : (v : ℕ) (sort : Sort) → length before.cells ≤ v → ¬ (slice_get after.cells v ≡ Some (variable sort None))

-- what was bound occurs in a or b, and so does what it was bound to
pub record BindsWithin (a b : ℕ) (before after : Store) : Type 0 where
  pub bound : (v k : ℕ) (sort : Sort) → slice_get before.cells v ≡ Some (variable sort None) → slice_get after.cells v ≡ Some (variable sort (Some k)) → OccursIn before v a ⊎ OccursIn before v b
  pub target : (v k : ℕ) (sort : Sort) → slice_get before.cells v ≡ Some (variable sort None) → slice_get after.cells v ≡ Some (variable sort (Some k)) → OccursIn before k a ⊎ OccursIn before k b

-- cells from the number `base` on name cells from there on
abbrev pub NamesFrom : ℕ → Store → Type 0
NamesFrom base s = (n : ℕ) (c : Cell) → base ≤ n → slice_get s.cells n ≡ Some c → IsTrue (list_all (nat_le base) (parts_of c))

-- built cells came, and they name these cells and one another alone: where these have the number `base` or greater ones, no cell that
-- came names one below it
pub record AddsOver (rs : List ℕ) (before after : Store) : Type 0 where
  pub built : AddsBuilt before after
  pub names : (base : ℕ) → base ≤ length before.cells → IsTrue (list_all (nat_le base) rs) → NamesFrom base before → NamesFrom base after

-- what is built over these cells in a store that had n cells names these and new cells alone: it names no cell below `base`, where
-- neither these nor the new cells are below it
abbrev pub NamesOver : List ℕ → ℕ → (ℕ → Bool) → Type 0
NamesOver rs n names_from = (base : ℕ) → base ≤ n → IsTrue (list_all (nat_le base) rs) → IsTrue (names_from base)
