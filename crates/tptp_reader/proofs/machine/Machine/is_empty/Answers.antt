use Rattle.std.proofs.Common.{◌==◌, sym, ◌∙◌, ap, not, length}
use Rattle.tptp_reader.specs.Following.{is_open, stack_of, with_notes}
use Rattle.tptp_reader.proofs.StackViews.{stack-open}
use Rattle.tptp_reader.proofs.machine.Machine.is_empty.Goals as goal

pub returns-then-not-self : goal.returns-then-not-self
returns-then-not-self c =
    c.is_empty.ensures ∙ ap (λ xs. length xs == 0) c.as_slice.ensures.value ∙ stack-open c.args.self.now.expected.items
    ∙ ap (λ b. not (is_open (with_notes b c.args.self.now.waiting.items (stack_of c.args.self.now.expected.items)))) (sym c.if-not-self.true)
