use Rattle.std.proofs.Common.{arith}
use Rattle.tableau_core.proofs.Numbered.KnownLaws.{lower-term-item}
use Rattle.tableau_core.proofs.admission.are_admitted.Goals as goal

pub is_admitted-requires-clause-lower : goal.is_admitted-requires-clause-lower
is_admitted-requires-clause-lower c = lower-term-item c.args.table.now _ _ c.terms-terms.result.now c.loop-term.term-index _ c.requires.next c.terms-terms.ensures.lower (omega arith)
