-- That numbers have 32 bits, list by list of a table, and of moves.
use Rattle.std.specs.Prelude.{ℕ, ◌<◌, List, Bool, ◌&&◌, IsTrue}
use Rattle.std.specs.List.{list_all}
use Rattle.calculus.specs.Ground.{marks_tree, values_tree}
use Rattle.calculus.specs.Lists.{g_terms_tree}
use Rattle.calculus.specs.Text.{is_number}
use Rattle.calculus.specs.TableauText.{Chosen, Move, reduction, extension, Moves, grounds_have_numbers, marks_have_numbers, value_has_numbers, values_have_numbers}
use Rattle.formula_core.specs.GroundLists.{GroundList, of_terms, of_marks, of_values, list_at}

abbrev pub list_has_numbers : GroundList → Bool
list_has_numbers (of_terms ts) = grounds_have_numbers (g_terms_tree ts)
list_has_numbers (of_marks ms) = marks_have_numbers (marks_tree ms)
list_has_numbers (of_values vs) = values_have_numbers (values_tree vs)

-- so have the lists below this number
abbrev pub HaveNumbers : List GroundList → ℕ → Type 0
HaveNumbers ls n = (k : ℕ) → k < n → IsTrue (list_has_numbers (list_at ls k))

abbrev pub chosen_has_numbers : Chosen → Bool
chosen_has_numbers i = list_all value_has_numbers i.values

abbrev pub move_has_numbers : Move → Bool
move_has_numbers (reduction k) = is_number k
move_has_numbers (extension place i) = is_number place && chosen_has_numbers i

abbrev pub moves_have_numbers : Moves → Bool
moves_have_numbers x = chosen_has_numbers x.start && list_all move_has_numbers x.moves
