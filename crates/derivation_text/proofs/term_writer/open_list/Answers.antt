use Rattle.std.proofs.Common.{refl}
use Rattle.derivation_text.proofs.TermWritingLaws.{wrote-open}
use Rattle.derivation_text.proofs.term_writer.open_list.Goals as goal

pub returns : goal.returns
returns c = λ symbols ls h.
    wrote-open symbols ls c.args.out.now.items c.push.new.self.items c.args.stack.now.items c.push_close.new.stack.items c.push_further.new.stack.items c.args.terms.now _ _ c.requires refl h
    c.in_ok-push.ensures.items (c.in_ok-push_close.ensures symbols ls) c.in_ok-push_further.ensures
