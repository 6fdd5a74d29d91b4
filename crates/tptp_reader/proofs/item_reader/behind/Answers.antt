use Rattle.std.proofs.Common.{sym, ◌∙◌, ◌∷◌, []}
use Rattle.tptp_reader.specs.Expecting.{this}
use Rattle.tptp_reader.specs.ExpectedView.{the_fixed}
use Rattle.tptp_reader.proofs.FailLaws.{fails-this, fails-other, passes-to}
use Rattle.tptp_reader.proofs.item_reader.behind.Goals as goal

pub returns-then-not-has_form-clause-settles : goal.returns-then-not-has_form-clause-settles
returns-then-not-has_form-clause-settles c = λ modal es b. fails-other modal (the_fixed c.args.form) 0 es (sym c.has_form.ensures ∙ c.if-not-has_form.true)

pub returns-clause-settles : goal.returns-clause-settles
returns-clause-settles c = λ modal.
    passes-to modal c.args.text.now [] c.args.p.end (this (the_fixed c.args.form) 0 ∷ []) c.args.p c.next_token.result (λ es b h. fails-this modal (the_fixed c.args.form) 0 es h) (c.next_token.ensures.settles modal)
