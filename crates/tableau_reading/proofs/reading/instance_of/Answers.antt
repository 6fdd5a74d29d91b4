use Rattle.std.proofs.Common.{◌∙◌, slice_get}
use Rattle.tableau_reading.proofs.BuiltLaws.{instance-read}
use Rattle.tableau_reading.proofs.ReadOffLaws.{selection-read}
use Rattle.tableau_reading.proofs.reading.instance_of.Goals as goal

pub returns-clause-selection : goal.returns-clause-selection
returns-clause-selection c = selection-read (slice_get c.args.from.now.matrix.now c.args.copied.now.clause.0) c.selection.result.now c.in_ok-selection.selection c.selection.ensures (c.in_ok-selection.ensures ∙ c.items.ensures)

pub returns-clause-is_instance : goal.returns-clause-is_instance
returns-clause-is_instance c = λ σ sp atoms h. instance-read c.args.from.now.matrix.now c.args.copied.now c.args.grounds.now.table c.values_of.new.grounds.table σ atoms _ c.in_ok-values.ensures.grown (selection-read (slice_get c.args.from.now.matrix.now c.args.copied.now.clause.0) c.selection.result.now c.in_ok-selection.selection c.selection.ensures (c.in_ok-selection.ensures ∙ c.items.ensures)) (c.in_ok-values.ensures.values σ sp) h
