use Rattle.std.proofs.Common.{◌+◌, arith, refl}
use Rattle.tableau_text.proofs.WriteLaws.{marks-next}
use Rattle.tableau_text.proofs.values_writer.write_marks.Goals as goal

pub returns-then-from-marks : goal.returns-then-from-marks
returns-then-from-marks c =
    marks-next c.args.symbols.now c.args.table.now c.args.label c.marks-marks.result.now c.args.from (c.args.from + 1) _ _ _ _ _ _ c.marks-marks.ensures.list c.if-from-marks.true (omega arith) refl c.requires c.in_ok-write_bytes.ensures.ok c.in_ok-push_two.ensures
