use Rattle.std.proofs.Common.{arith}
use Rattle.finite_model.proofs.MakingLaws.{count-done}
use Rattle.finite_model.proofs.making.function_count.Goals as goal

pub loop-place-preserved : goal.loop-place-preserved
loop-place-preserved c = record { left = omega (arith, c.count_of-more.ensures.count, c.loop-place.invariant.left); few = omega (arith, c.count_of-more.ensures.few) }

pub returns : goal.returns
returns c = count-done c.args.symbols.now c.loop-place.place c.loop-place.count _ (omega arith) c.loop-place.invariant.left
