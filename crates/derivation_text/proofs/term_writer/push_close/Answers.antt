use Rattle.std.proofs.Common.{◌+◌, arith}
use Rattle.derivation_text.proofs.TermWritingLaws.{before-close}
use Rattle.derivation_text.proofs.term_writer.push_close.Goals as goal

pub returns : goal.returns
returns c = λ symbols ls.
    before-close symbols ls c.args.stack.now.items c.take_closers-count.new.stack.items c.push.new.self.items c.take_closers-count.result (c.take_closers-count.result + 1)
    (c.take_closers-count.ensures.text symbols ls) (c.take_closers-count.ensures.written symbols ls) (omega arith) c.in_ok-push.ensures.items
