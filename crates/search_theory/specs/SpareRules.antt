-- Values of unbound variables, by those of the cells that they need.
use Rattle.std.specs.Prelude.{◌≡◌, ℕ, suc, List, [], ◌∷◌, IsTrue, refl, Some, None, slice_get, ◌++◌}
use Rattle.std.proofs.Common.{ap, ap₂}
use Rattle.calculus.specs.declared.sort.Sort.{Sort}
use Rattle.calculus.specs.declared.sort.Sort.TheVariants.{TermSort, MarkSort, StringSort}
use Rattle.calculus.specs.Ground.{own, g_spare_mark, marks_tree}
use Rattle.store_theory.specs.Stores.{Cell, variable, fun_cell, eigen_cell, new_cell, string_cell, Store, CellValue, a_term, a_mark, a_string, has_sort, Solution}
use Rattle.search_theory.specs.States.{label_by}
use Rattle.search_theory.specs.CellsIn.{IsPart}
use Rattle.store_theory.specs.Templates.{as_label}

-- the value of an unbound variable, by the values of the cells that it needs
pub record SpareRule : Type 0 where
  pub spare : Solution → ℕ → Sort → CellValue
  pub needs : ℕ → Sort → List ℕ
  pub alike : (σ τ : Solution) (r : ℕ) (sort : Sort) → ((k : ℕ) → IsPart k (needs r sort) → σ k ≡ τ k) → spare σ r sort ≡ spare τ r sort
  pub sorted : (σ : Solution) (r : ℕ) (sort : Sort) → IsTrue (has_sort sort (spare σ r sort))

-- the cells whose values make that of the cell
abbrev pub needed : SpareRule → ℕ → Cell → List ℕ
needed R r (variable sort None) = R.needs r sort
needed R r (variable sort (Some k)) = k ∷ []
needed R r (fun_cell f rs) = rs
needed R r (eigen_cell p rs) = rs
needed R r (new_cell p rs) = rs
needed R r (string_cell rs) = rs

abbrev pub home_spare : (ℕ → List ℕ) → Solution → ℕ → Sort → CellValue
home_spare home σ r TermSort = a_term (own r (marks_tree (label_by σ (home r))))
home_spare home σ r MarkSort = a_mark (g_spare_mark r)
home_spare home σ r StringSort = a_string []

abbrev pub home_needs : (ℕ → List ℕ) → ℕ → Sort → List ℕ
home_needs home r TermSort = home r
home_needs home r MarkSort = []
home_needs home r StringSort = []

pub label-alike : (σ τ : Solution) (rs : List ℕ) → ((k : ℕ) → IsPart k rs → σ k ≡ τ k) → label_by σ rs ≡ label_by τ rs
label-alike σ τ [] h = refl
label-alike σ τ (r ∷ rs) h = ap₂ (λ v w. as_label v ++ w) (h r (0, refl)) (label-alike σ τ rs (λ k p. h k (suc p.0, p.1)))

pub home-alike : (home : ℕ → List ℕ) (σ τ : Solution) (r : ℕ) (sort : Sort) → ((k : ℕ) → IsPart k (home_needs home r sort) → σ k ≡ τ k) → home_spare home σ r sort ≡ home_spare home τ r sort
home-alike home σ τ r TermSort h = ap (λ w. a_term (own r (marks_tree w))) (label-alike σ τ (home r) h)
home-alike home σ τ r MarkSort h = refl
home-alike home σ τ r StringSort h = refl

pub home-sorted : (home : ℕ → List ℕ) (σ : Solution) (r : ℕ) (sort : Sort) → IsTrue (has_sort sort (home_spare home σ r sort))
home-sorted home σ r TermSort = refl
home-sorted home σ r MarkSort = refl
home-sorted home σ r StringSort = refl

abbrev pub homes : (ℕ → List ℕ) → SpareRule
homes home = record { spare = home_spare home; needs = home_needs home; alike = home-alike home; sorted = home-sorted home }

-- the cell r needs the cell k, at once or by way of others
pub data Needs (R : SpareRule) (s : Store) (k : ℕ) : ℕ → Type 0 where
  at_once : {r : ℕ} {c : Cell} → slice_get s.cells r ≡ Some c → IsPart k (needed R r c) → Needs R s k r
  by_way : {r j : ℕ} {c : Cell} → slice_get s.cells r ≡ Some c → IsPart j (needed R r c) → Needs R s k j → Needs R s k r

abbrev pub HasNoNeedCycle : SpareRule → Store → Type 0
HasNoNeedCycle R s = (r : ℕ) → ¬ Needs R s r r

-- what a cell needs is a cell
abbrev pub NeedsCells : SpareRule → Store → Type 0
NeedsCells R s = (r k : ℕ) (c : Cell) → slice_get s.cells r ≡ Some c → IsPart k (needed R r c) → (d : Cell) × (slice_get s.cells k ≡ Some d)
