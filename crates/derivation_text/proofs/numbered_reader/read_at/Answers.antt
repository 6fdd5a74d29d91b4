use Rattle.std.proofs.Common.{sym, ◌∙◌}
use Rattle.logic_rules.proofs.ProblemFacts.{kept}
use Rattle.formula_text.proofs.Passing.{error-passed}
use Rattle.derivation_text.specs.NumberedBody.{the_numbered_line}
use Rattle.derivation_text.proofs.NumberedLines.{none-after, none-small, read-line}
use Rattle.derivation_text.proofs.numbered_reader.read_at.Goals as goal

pub returns-in_err-line-clause-none : goal.returns-in_err-line-clause-none
returns-in_err-line-clause-none c = λ e.
    none-small c.args.problem.now.symbols c.args.stage c.args.text.now c.requires.labels c.requires.terms (c.in_err-line.ensures.none (error-passed c.from_residual.result c.in_err-line.field-0.0 _ c.from_residual.ensures.1 e))

pub returns-in-Some-clause-ok : goal.returns-in-Some-clause-ok
returns-in-Some-clause-ok c = read-line c.args.problem.now.symbols c.args.text.now (the_numbered_line c.in_ok-line.line) c.in_ok-line.ensures.ok

pub returns-in-None-clause-none : goal.returns-in-None-clause-none
returns-in-None-clause-none c = λ _.
    none-after c.args.problem.now.symbols (kept c.args.problem.now c.requires.well).distinct c.args.stage c.args.text.now (the_numbered_line c.in_ok-line.line) c.in_ok-line.ensures.ok (sym c.numbered_stage_after.ensures ∙ c.in-None.is)
