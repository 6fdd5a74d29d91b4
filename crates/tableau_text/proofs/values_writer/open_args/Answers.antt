use Rattle.tableau_text.proofs.WriteLaws.{args-open}
use Rattle.tableau_text.proofs.values_writer.open_args.Goals as goal

pub returns-in_ok-push_two-in-Some : goal.returns-in_ok-push_two-in-Some
returns-in_ok-push_two-in-Some c = args-open c.args.symbols.now c.args.table.now c.args.args c.terms.result.now _ c.in-Some.first.now _ _ _ _ c.terms.ensures.list c.in-Some.ensures.cases.0 c.requires c.in_ok-write_bytes-in-Some.ensures.ok c.in_ok-push_two-in-Some.ensures
