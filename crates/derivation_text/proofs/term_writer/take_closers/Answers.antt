use Rattle.std.proofs.Common.{◌∷◌, [], ◌++◌, ◌∙◌, ap}
use Rattle.derivation_text.specs.declared.term_writer.Piece.TheVariants.{Close}
use Rattle.derivation_text.proofs.TermWritingLaws.{pieces-last}
use Rattle.derivation_text.proofs.term_writer.take_closers.Goals as goal

pub returns-then-count-lt4294967295-clause-text : goal.returns-then-count-lt4294967295-clause-text
returns-then-count-lt4294967295-clause-text c = λ symbols ls.
    pieces-last symbols ls c.pop.new.self.items c.args.stack.now.items (Close c.in-Close.count) (c.in-Some.ensures.items ∙ ap (λ p. c.pop.new.self.items ++ p ∷ []) c.in-Close.is)
