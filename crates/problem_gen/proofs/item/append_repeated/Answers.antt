use Rattle.problem_gen.proofs.Joining.{written-more, repeat-more}
use Rattle.problem_gen.proofs.item.append_repeated.Goals as goal

pub loop-done-preserved : goal.loop-done-preserved
loop-done-preserved c = written-more _ _ _ _ _ _ c.loop-done.invariant c.in_ok-append_bytes.ensures (repeat-more c.loop-done._done c.args.bytes.now)
