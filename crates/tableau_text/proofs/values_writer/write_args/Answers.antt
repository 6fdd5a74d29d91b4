use Rattle.std.proofs.Common.{◌+◌, arith, refl}
use Rattle.tableau_text.proofs.WriteLaws.{args-next}
use Rattle.tableau_text.proofs.values_writer.write_args.Goals as goal

pub returns-then-from-terms : goal.returns-then-from-terms
returns-then-from-terms c =
    args-next c.args.symbols.now c.args.table.now c.args.args c.terms-terms.result.now c.args.from (c.args.from + 1) _ _ _ _ _ _ c.terms-terms.ensures.list c.if-from-terms.true (omega arith) refl c.requires c.in_ok-write_bytes.ensures.ok c.in_ok-push_two.ensures
