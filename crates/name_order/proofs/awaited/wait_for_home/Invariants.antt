use Rattle.std.proofs.Common.{◌≡◌, ◌==◌, map, drop}
use Rattle.calculus.specs.Ground.{g_eigen, values_tree}
use Rattle.conversion_theory.specs.Turns.{mark_name, term_name}
use Rattle.formula_core.specs.GroundLists.{the_values}
use Rattle.name_order.specs.ByNumber.Inside.{home_marks}
use Rattle.tableau_core.specs.Numbered.SpotView.{the_mark_at}
use Rattle.name_order.specs.Found.{introducers_in}
use Rattle.name_order.specs.PlaceView.{the_places}
use Rattle.name_order.specs.ByNumber.ReachedView.{the_keys}
use Rattle.name_order.specs.Keeping.{keep_all}
use Rattle.name_order.proofs.awaited.wait_for_home.Given as goal

abbrev pub invariant-loop-mark : goal.invariant-loop-mark
invariant-loop-mark l = keep_all ◌==◌ l.waits.keys (introducers_in (the_places l.places) (the_keys l.table l.agenda.keys) (map (λ m. mark_name (the_mark_at l.table m)) (drop l.mark-index l.marks))) ≡ keep_all ◌==◌ l.initial.waits.keys (introducers_in (the_places l.places) (the_keys l.table l.agenda.keys) (home_marks l.problem (term_name (g_eigen l.fn.position.0 (values_tree (the_values l.table l.fn.values))))))
