use Rattle.std.proofs.Common.{◌∷◌, [], ◌++◌, ◌∙◌, ap}
use Rattle.derivation_text.proofs.TermWritingLaws.{goes-close, goes-further}
use Rattle.derivation_text.proofs.term_writer.write_behind.Goals as goal

pub returns-in-Further : goal.returns-in-Further
returns-in-Further c = λ symbols ls.
    goes-further symbols ls c.args.out.now.items c.loop-piece.out.items c.push.new.self.items c.args.stack.now.items c.loop-piece.stack.items c.pop.new.self.items c.in-Further.term (c.loop-piece.invariant symbols ls)
    (c.in-Some.ensures.items ∙ ap (λ p. c.pop.new.self.items ++ p ∷ []) c.in-Further.is) c.in_ok-push-in-Further.ensures.items

pub loop-piece-preserved : goal.loop-piece-preserved
loop-piece-preserved c = λ symbols ls.
    goes-close symbols ls c.args.out.now.items c.loop-piece.out.items c.write_closers.new.out.items c.args.stack.now.items c.loop-piece.stack.items c.pop.new.self.items c.in-Close.count (c.loop-piece.invariant symbols ls)
    (c.in-Some.ensures.items ∙ ap (λ p. c.pop.new.self.items ++ p ∷ []) c.in-Close.is) c.in_ok-write_closers-in-Close.ensures
