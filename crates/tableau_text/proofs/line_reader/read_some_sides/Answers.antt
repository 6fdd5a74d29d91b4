use Rattle.std.proofs.Common.{◌∙◌, refl, inl, inr, sym}
use Rattle.formula_text.proofs.Passing.{error-passed}
use Rattle.tableau_text.proofs.SideLaws.{empty-is, no-sides, not-empty, sides-read}
use Rattle.tableau_text.proofs.line_reader.read_some_sides.Goals as goal

pub returns-in_err-sides-clause-none : goal.returns-in_err-sides-clause-none
returns-in_err-sides-clause-none c = λ e. absurd (c.in_err-sides.ensures.none (error-passed c.from_residual.result c.in_err-sides.field-0.0 _ c.from_residual.ensures.1 e))

pub returns-then-is_empty-clause-none : goal.returns-then-is_empty-clause-none
returns-then-is_empty-clause-none c = λ _.
    no-sides c.args.text.now c.requires c.in_ok-sides.sides c.in_ok-sides.after.now c.in_ok-sides.ensures.ok (inl (sym c.items.ensures ∙ empty-is c.items.result.now _ c.is_empty.ensures c.if-is_empty.true))

pub returns-in-Some-clause-ok : goal.returns-in-Some-clause-ok
returns-in-Some-clause-ok c =
    sides-read c.args.text.now c.in_ok-sides.sides c.in_ok-sides.after.now c.in-Some.rest.now c.in_ok-sides.ensures.ok (λ n. not-empty c.items.result.now _ c.is_empty.ensures c.if-is_empty.false (c.items.ensures ∙ n)) c.in-Some.ensures.some

pub returns-clause-none : goal.returns-clause-none
returns-clause-none c = λ _. no-sides c.args.text.now c.requires c.in_ok-sides.sides c.in_ok-sides.after.now c.in_ok-sides.ensures.ok (inr (c.in-None.ensures.none refl))
