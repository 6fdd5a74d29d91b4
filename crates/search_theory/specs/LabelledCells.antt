-- What the search keeps of its own cells in a logic with labels: what they build is built right.
use Rattle.std.specs.Prelude.{◌≡◌, ℕ, List, length, map, Bool, true, ◌&&◌, Some, slice_get, IsTrue, if◌then◌else◌}
use Rattle.calculus.specs.declared.sort.Sort.TheVariants.{TermSort}
use Rattle.calculus.specs.Syntax.{Problem}
use Rattle.calculus.specs.Ground.{Value, common, g_spare_mark, no_marks, more_marks, term, steps}
use Rattle.calculus.specs.Skolem.{has_function, is_delta_position, is_pi_position, fits_way}
use Rattle.store_theory.specs.Stores.{Cell, variable, fun_cell, eigen_cell, new_cell, string_cell, Store, parts_of, has_sort_at}
use Rattle.calculus.specs.Labels.{is_step_length}

-- a value of the cell's sort: a spare constant, or a string of one spare character
abbrev pub sort_value : Store → ℕ → Value
sort_value s r = if has_sort_at s TermSort r then term (common 0) else steps (more_marks (g_spare_mark 0) no_marks)

abbrev pub sort_values : Store → List ℕ → List Value
sort_values s rs = map (sort_value s) rs

-- a function symbol of the problem has its arity; a name belongs to a delta or pi position and has values of the sorts of the way to it; and
-- a built string has a length that is a step
abbrev pub is_labelled_cell : Problem → Store → Cell → Bool
is_labelled_cell P s (variable sort b) = true
is_labelled_cell P s (fun_cell f rs) = has_function P.symbols f (length rs)
is_labelled_cell P s (eigen_cell p rs) = is_delta_position P p && fits_way P p (sort_values s rs)
is_labelled_cell P s (new_cell p rs) = is_pi_position P p && fits_way P p (sort_values s rs)
is_labelled_cell P s (string_cell rs) = is_step_length P.setting.logic (length rs)

-- the cells of which In holds are built right, with their parts
pub record AreLabelled (P : Problem) (In : ℕ → Type 0) (s : Store) : Type 0 where
  pub built : (r : ℕ) (c : Cell) → In r → slice_get s.cells r ≡ Some c → IsTrue (is_labelled_cell P s c)
  pub names : (r k i : ℕ) (c : Cell) → In r → slice_get s.cells r ≡ Some c → slice_get (parts_of c) i ≡ Some k → In k
