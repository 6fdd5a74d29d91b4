use Rattle.std.proofs.Common.{◌+◌, arith}
use Rattle.calculus.specs.Families.{chain_link}
use Rattle.problem_gen.proofs.Joining.{written-more, range-more}
use Rattle.problem_gen.proofs.chain.append_links.Goals as goal

pub loop-before-preserved : goal.loop-before-preserved
loop-before-preserved c = written-more _ _ _ _ _ _ c.loop-before.invariant c.in_ok-append_link.ensures (range-more (chain_link c.args.word.now) 1 c.loop-before.before (c.loop-before.before + 1) (omega arith))
