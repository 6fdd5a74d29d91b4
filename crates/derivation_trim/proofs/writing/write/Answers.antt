use Rattle.std.proofs.Common.{arith}
use Rattle.derivation_trim.proofs.WriteLaws.{write-end, write-next}
use Rattle.derivation_trim.proofs.writing.write.Goals as goal

pub loop-step-preserved : goal.loop-step-preserved
loop-step-preserved c = let l = c.loop-step in
    write-next c.args.steps.now l.step-index c.step-item.result c.step-item.result l.waiting.items c.pop.new.self.items c.in-Some.mark l.out c.write_step.new.out _ l.table.items c.write_step.new.table.items l.forks.items c.write_step.new.forks.items
    (omega arith) c.step-item.is c.in-Some.ensures.items c.in_ok-write_step.ensures l.invariant

pub returns : goal.returns
returns c = let l = c.loop-step in
    write-end c.args.steps.now l.step-index l.waiting.items l.out _ l.table.items l.forks.items (omega arith) l.invariant
