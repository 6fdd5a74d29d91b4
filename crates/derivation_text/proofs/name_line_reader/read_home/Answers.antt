use Rattle.std.proofs.Common.{sym, ◌∙◌}
use Rattle.plain_laws.proofs.Lists.{pointwise-differ}
use Rattle.formula_text.proofs.Passing.{error-passed}
use Rattle.derivation_text.proofs.Parts.{no-home}
use Rattle.derivation_text.proofs.name_line_reader.read_home.Goals as goal

pub returns-in_err-label-clause-none : goal.returns-in_err-label-clause-none
returns-in_err-label-clause-none c = λ e.
    no-home c.args.text.now (λ s. pointwise-differ _ _ (sym c.if-eq.false ∙ c.eq.ensures) (s ∙ sym c.as_slice.ensures)) (c.in_err-label.ensures.none (error-passed c.from_residual.result c.in_err-label.field-0.0 _ c.from_residual.ensures.1 e))
