use Rattle.std.proofs.Common.{sym, ◌∙◌, arith}
use Rattle.finite_model.proofs.RowLaws.{row-on, row-end}
use Rattle.finite_model.proofs.structure.is_row_kept.Goals as goal

pub loop-place-preserved : goal.loop-place-preserved
loop-place-preserved c = row-on c.args.row.now c.args.others.now c.loop-place.place c.loop-place.kept c.is_digit_kept-kept.result (omega arith) (omega arith) c.is_digit_kept-kept.ensures ∙ c.loop-place.invariant

pub returns : goal.returns
returns c = sym (row-end c.args.row.now c.args.others.now c.loop-place.place c.loop-place.kept (omega arith)) ∙ c.loop-place.invariant
