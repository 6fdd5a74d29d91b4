use Rattle.std.proofs.Common.{arith, slice_index_or, refl}
use Rattle.sequent_convert.specs.ByNumber.RunView.{the_source}
use Rattle.sequent_convert.proofs.StateLaws.{count-step}
use Rattle.sequent_convert.proofs.parts.literals_among.Goals as goal

pub loop-turn-preserved : goal.loop-turn-preserved
loop-turn-preserved c = count-step (the_source c.args.source.now) c.args.turns.now c.loop-turn.turn-index (slice_index_or c.args.turns.now c.loop-turn.turn-index 0) c.loop-turn.count c.literal_at-count.result c.loop-turn-test.true refl c.loop-turn.invariant.0 c.loop-turn.invariant.1 c.literal_at-count.ensures

pub overflow_add-count : goal.overflow_add-count
overflow_add-count c = let counted = (count-step (the_source c.args.source.now) c.args.turns.now c.loop-turn.turn-index (slice_index_or c.args.turns.now c.loop-turn.turn-index 0) c.loop-turn.count c.literal_at-count.result c.loop-turn-test.true refl c.loop-turn.invariant.0 c.loop-turn.invariant.1 c.literal_at-count.ensures).1 in omega (arith, counted)
