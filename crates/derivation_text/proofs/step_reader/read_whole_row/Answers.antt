use Rattle.std.proofs.Common.{ℕ, subst}
use Rattle.calculus.specs.DerivationText.{IsTermAt}
use Rattle.calculus.specs.Syntax.{Term}
use Rattle.logic_rules.proofs.ProblemFacts.{kept}
use Rattle.formula_text.proofs.Passing.{error-passed}
use Rattle.derivation_text.proofs.Parts.{no-term, no-whole}
use Rattle.derivation_text.proofs.step_reader.read_whole_row.Goals as goal

pub returns-in_err-row-clause-none : goal.returns-in_err-row-clause-none
returns-in_err-row-clause-none c = λ e.
    no-term c.args.problem.now.symbols c.args.text.now
    (subst (λ symbols. (to : ℕ) (t : Term) → ¬ IsTermAt symbols c.args.text.now 0 to t) c.symbols.ensures.symbols
    (c.in_err-row.ensures.none (error-passed c.from_residual.result c.in_err-row.field-0.0 _ c.from_residual.ensures.1 e)))

pub returns-else-to-text-clause-none : goal.returns-else-to-text-clause-none
returns-else-to-text-clause-none c = λ e.
    no-whole c.args.problem.now.symbols (kept c.args.problem.now c.symbols.ensures.well).distinct c.args.text.now c.in_ok-row.to c.in_ok-row.row
    (subst (λ symbols. IsTermAt symbols c.args.text.now 0 c.in_ok-row.to c.in_ok-row.row) c.symbols.ensures.symbols c.in_ok-row.ensures.ok) c.if-to-text.false
