use Rattle.tableau_text.proofs.WriteLaws.{marks-open}
use Rattle.tableau_text.proofs.values_writer.open_marks.Goals as goal

pub returns-in_ok-push_two-in-Some : goal.returns-in_ok-push_two-in-Some
returns-in_ok-push_two-in-Some c = marks-open c.args.symbols.now c.args.table.now c.args.label c.marks.result.now _ c.in-Some.first.now _ _ _ _ c.marks.ensures.list c.in-Some.ensures.cases.0 c.requires c.in_ok-write_bytes-in-Some.ensures.ok c.in_ok-push_two-in-Some.ensures
