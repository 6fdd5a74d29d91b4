use Rattle.std.proofs.Common.{sym, ◌∙◌}
use Rattle.logic_rules.proofs.ProblemFacts.{kept}
use Rattle.derivation_text.specs.BodyView.{the_body_line}
use Rattle.derivation_text.proofs.BodyLaws.{no-stage}
use Rattle.derivation_text.proofs.body_reader.read_next.Goals as goal

pub returns-in-None-clause-none : goal.returns-in-None-clause-none
returns-in-None-clause-none c = λ _ x h.
    no-stage c.args.problem.now.symbols (kept c.args.problem.now c.requires).distinct c.args.text.now (the_body_line c.in_ok-line.line) c.args.stage c.in_ok-line.ensures.ok (sym c.stage_after.ensures ∙ c.in-None.is) x h
