use Rattle.std.proofs.Common.{List, length, map, drop, IsTrue}
use Rattle.std.specs.List.{list_all}
use Rattle.formula_core.specs.GroundLists.{GroundList}
use Rattle.tableau_text.specs.MovesView.{the_move}
use Rattle.tableau_cert.specs.Numbers.{HaveNumbers, move_has_numbers}
use Rattle.tableau_cert.proofs.numbers.steps_fit.Given as goal

abbrev pub invariant-loop-step : goal.invariant-loop-step
invariant-loop-step l =
    (ls : List GroundList) → HaveNumbers ls (length ls) → IsTrue (list_all move_has_numbers (map (the_move ls) (drop l.step-index l.steps))) → IsTrue (list_all move_has_numbers (map (the_move ls) l.steps))
