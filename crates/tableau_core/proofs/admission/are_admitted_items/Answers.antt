use Rattle.std.proofs.Common.{arith}
use Rattle.tableau_core.proofs.Numbered.KnownLaws.{lower-value-item}
use Rattle.tableau_core.proofs.admission.are_admitted_items.Goals as goal

pub is_admitted_value-requires-clause-lower : goal.is_admitted_value-requires-clause-lower
is_admitted_value-requires-clause-lower c = lower-value-item c.args.table.now _ _ c.values-values.result.now c.loop-value.value-index _ c.requires.next c.values-values.ensures.lower (omega arith)
