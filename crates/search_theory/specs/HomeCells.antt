-- The label of a position by cells: the home of an eigenvariable whose values are cells, followed along the way to its position.
use Rattle.std.specs.Prelude.{◌≡◌, ℕ, List, [], ◌∷◌, ◌++◌, Bool, true, false, Some, slice_get, IsTrue}
use Rattle.calculus.specs.declared.sort.Sort.TheVariants.{TermSort, StringSort}
use Rattle.calculus.specs.declared.setting.Logic.{Logic}
use Rattle.calculus.specs.declared.kind.Shape.{Shape}
use Rattle.calculus.specs.declared.kind.Shape.TheVariants.{Gamma}
use Rattle.calculus.specs.declared.kind.ModalPart.{ModalPart}
use Rattle.calculus.specs.declared.kind.ModalPart.TheVariants.{Plain, Nu, Pi}
use Rattle.calculus.specs.Labels.{pi_label}
use Rattle.calculus.specs.Skolem.{Reached}
use Rattle.store_theory.specs.Stores.{new_cell, Store, has_sort_at, Solution}
use Rattle.search_theory.specs.States.{label_by, values_by}

-- how far a way was followed: the label reached, the values taken, and those that are still there
pub record CellReached : Type 0 where
  pub label : List ℕ
  pub taken : List ℕ
  pub rest : List ℕ

-- a nu position takes a string, and a pi position is named by a cell; either is one item more of the label
pub data PassesModal (l : Logic) (s : Store) (p : ℕ) : ModalPart → CellReached → CellReached → Type 0 where
  by_plain : {c : CellReached} → PassesModal l s p Plain c c
  by_string : (w taken rest : List ℕ) (r : ℕ) → IsTrue (has_sort_at s StringSort r) → PassesModal l s p Nu (record { label = w; taken = taken; rest = r ∷ rest }) (record { label = pi_label l w r; taken = taken ++ r ∷ []; rest = rest })
  by_mark : (w taken rest : List ℕ) (k : ℕ) → slice_get s.cells k ≡ Some (new_cell p taken) → PassesModal l s p Pi (record { label = w; taken = taken; rest = rest }) (record { label = pi_label l w k; taken = taken; rest = rest })

abbrev pub is_gamma_shape : Shape → Bool
is_gamma_shape Gamma = true
is_gamma_shape _ = false

-- a gamma position takes a term
pub data PassesShape (s : Store) : Shape → CellReached → CellReached → Type 0 where
  by_term : (w taken rest : List ℕ) (r : ℕ) → IsTrue (has_sort_at s TermSort r) → PassesShape s Gamma (record { label = w; taken = taken; rest = r ∷ rest }) (record { label = w; taken = taken ++ r ∷ []; rest = rest })
  by_other : {h : Shape} {c : CellReached} → is_gamma_shape h ≡ false → PassesShape s h c c

-- what the cells stand for
abbrev pub reached_by : Solution → CellReached → Reached
reached_by σ c = record { label = label_by σ c.label; taken = values_by σ c.taken; rest = values_by σ c.rest }
