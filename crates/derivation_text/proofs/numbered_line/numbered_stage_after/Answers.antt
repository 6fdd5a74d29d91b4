use Rattle.std.proofs.Common.{◌∙◌, ap, sym}
use Rattle.derivation_text.specs.NumberedBody.{numbered_stage_after, the_numbered_line}
use Rattle.derivation_text.proofs.numbered_line.numbered_stage_after.Goals as goal

pub returns-in-Label : goal.returns-in-Label
returns-in-Label c = c.after_label.ensures c.in-Label.field-1 ∙ ap (λ l. numbered_stage_after c.args.stage (the_numbered_line l)) (sym c.in-Label.is)

pub returns-in-Term : goal.returns-in-Term
returns-in-Term c = c.after_term.ensures c.in-Term.field-1 ∙ ap (λ l. numbered_stage_after c.args.stage (the_numbered_line l)) (sym c.in-Term.is)
