use Rattle.std.proofs.Common.{arith}
use Rattle.tableau_core.proofs.Numbered.KnownLaws.{lower-mark-item}
use Rattle.tableau_core.proofs.admission.are_admitted_marks.Goals as goal

pub is_admitted_mark-requires-clause-lower : goal.is_admitted_mark-requires-clause-lower
is_admitted_mark-requires-clause-lower c = lower-mark-item c.args.table.now _ _ c.marks-marks.result.now c.loop-mark.mark-index _ c.requires.next c.marks-marks.ensures.lower (omega arith)
