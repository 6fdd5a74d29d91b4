use Rattle.std.proofs.Common.{[], length}
use Rattle.formula_core.specs.GroundLists.{IsGrown}
use Rattle.tableau_text.specs.Items.{of_root}
use Rattle.tableau_text.specs.OpenView.{IsNormalNext, the_point}
use Rattle.tableau_text.specs.Points.{Leads, inside}
use Rattle.tableau_text.proofs.values_reader.read_inside.Given as goal

abbrev pub invariant-loop-next : goal.invariant-loop-next
invariant-loop-next l = record {
  leads : Leads l.symbols (inside [] of_root l.fn.text) (the_point l.table l.stack.items l.next l.rest);
  normal : IsNormalNext l.table l.stack.items l.next;
  grown : IsGrown l.fn.table l.table;
}

abbrev pub decreases-loop-next : goal.decreases-loop-next
decreases-loop-next l = length l.rest
