-- Matching patterns against cells, by the ground solutions of a store: the cells get the values of the patterns, and the patterns are not
-- built.
use Rattle.std.specs.Prelude.{◌≡◌, ◌==◌, ◌≤◌, ◌<◌, ℕ, List, length, Bool, false, Some, slice_get, IsTrue, nat_le}
use Rattle.std.specs.List.{list_all}
use Rattle.calculus.specs.declared.sort.Sort.{Sort}
use Rattle.store_theory.specs.Bindings.{AddsBuilt, BindsOnly, NamesFrom, is_variable}
use Rattle.store_theory.specs.Patterns.{Pattern, p_var, p_fun, p_eigen, p_new, patterns_tree}
use Rattle.store_theory.specs.Stores.{Cell, Store, parts_of, Solution, Solves}
use Rattle.store_theory.specs.Templates.{pattern_value}
use Rattle.search_theory.specs.States.{Agree, values_by}
use Rattle.term_store.specs.Fitting.{fits_in}
use Rattle.term_store.specs.declared.cell.Head.{Head}
use Rattle.term_store.specs.declared.cell.Head.TheVariants.{Fun, Eigen, New}

-- the cell has the value of the pattern over the variables
abbrev pub Matches : List ℕ → ℕ → Pattern → Solution → Type 0
Matches vs r p σ = σ r ≡ pattern_value (values_by σ vs) p

-- so have the first n cells those of the patterns at their places
abbrev pub MatchTo : List ℕ → List ℕ → List Pattern → ℕ → Solution → Type 0
MatchTo vs rs ps n σ = (j r : ℕ) (p : Pattern) → j < n → slice_get rs j ≡ Some r → slice_get ps j ≡ Some p → Matches vs r p σ

-- the solutions of the new store, which may have more cells, are those of the old one of which Q holds
pub record Narrows (Q : Solution → Type 0) (old new : Store) : Type 0 where
  pub longer : length old.cells ≤ length new.cells
  pub back : (σ : Solution) → Solves new σ → Solves old σ × Q σ
  pub forth : (σ : Solution) → Solves old σ → Q σ → (τ : Solution) × Solves new τ × Agree (length old.cells) σ τ

-- Q holds of no solution
abbrev pub HoldsNowhere : (Solution → Type 0) → Store → Type 0
HoldsNowhere Q s = (σ : Solution) → Solves s σ → ¬ Q σ

-- Q holds of all solutions
abbrev pub HoldsAlways : (Solution → Type 0) → Store → Type 0
HoldsAlways Q s = (σ : Solution) → Solves s σ → Q σ

-- built cells and bindings came; the same comes of all these cells and then all these bindings
pub record AddsAndBinds (before after : Store) : Type 0 where
  pub mid : Store
  pub built : AddsBuilt before mid
  pub binds : BindsOnly mid after

-- where the variables and the cell r have the number `base` or greater ones, cells from there on still name cells from there on
abbrev pub NamesKept : List ℕ → ℕ → Store → Store → Type 0
NamesKept vs r before after = (base : ℕ) → base ≤ length before.cells → IsTrue (list_all (nat_le base) vs) → base ≤ r → NamesFrom base before → NamesFrom base after

-- the same for several cells
abbrev pub AllNamesKept : List ℕ → List ℕ → Store → Store → Type 0
AllNamesKept vs rs before after = (base : ℕ) → base ≤ length before.cells → IsTrue (list_all (nat_le base) vs) → IsTrue (list_all (nat_le base) rs) → NamesFrom base before → NamesFrom base after

-- these are the pattern's parts
abbrev pub HasParts : Pattern → List Pattern → Type 0
HasParts (p_var k) ps = ⊥
HasParts (p_fun f qs) ps = qs ≡ patterns_tree ps
HasParts (p_eigen x qs) ps = qs ≡ patterns_tree ps
HasParts (p_new x qs) ps = qs ≡ patterns_tree ps

-- the pattern's kind and name are those of built cells of this head
abbrev pub has_head : Head → Pattern → Bool
has_head (Fun f) (p_fun g ps) = f.0 == g
has_head (Eigen x) (p_eigen y ps) = x.0 == y
has_head (New x) (p_new y ps) = x.0 == y
has_head _ _ = false

-- the cells are the parts of the cell x
abbrev pub ArePartsAt : Store → ℕ → (List ℕ → Type 0) → Type 0
ArePartsAt s x P = (c : Cell) → slice_get s.cells x ≡ Some c → P (parts_of c)

-- each pattern has some sort over the variables
abbrev pub EachFits : Store → List ℕ → List Pattern → Type 0
EachFits s vs ps = (i : ℕ) (p : Pattern) → slice_get ps i ≡ Some p → (sort : Sort) × IsTrue (fits_in s vs sort p)

-- a built cell stands there
abbrev pub StandsBuilt : Store → ℕ → Type 0
StandsBuilt s x = (c : Cell) × (slice_get s.cells x ≡ Some c) × (is_variable c ≡ false)
