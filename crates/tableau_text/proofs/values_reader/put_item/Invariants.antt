use Rattle.std.proofs.Common.{length, vec_len}
use Rattle.tableau_text.specs.ItemView.{the_item}
use Rattle.tableau_text.specs.OpenView.{frames}
use Rattle.tableau_text.specs.Points.{behind}
use Rattle.tableau_text.proofs.StepLaws.{IsPutTo}
use Rattle.tableau_text.proofs.values_reader.put_item.Given as goal

abbrev pub invariant-loop-last : goal.invariant-loop-last
invariant-loop-last l =
    IsPutTo l.symbols (behind (frames l.fn.table l.fn.stack.items) (the_item l.fn.table l.fn.given) l.fn.text) l.fn.table l.table l.stack.items l.item l.rest (length l.fn.text)

abbrev pub decreases-loop-last : goal.decreases-loop-last
decreases-loop-last l = vec_len l.stack
