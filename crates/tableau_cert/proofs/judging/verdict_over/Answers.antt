use Rattle.std.proofs.Common.{map, ap, ◌∙◌}
use Rattle.calculus.specs.TableauText.{bare_instances, strings_are_short}
use Rattle.formula_core.proofs.GrownLaws.{grown-both}
use Rattle.tableau_text.specs.MovesView.{the_moves}
use Rattle.tableau_cert.specs.Judging.{resolved_verdict}
use Rattle.tableau_cert.specs.Resolving.{closer_of}
use Rattle.tableau_cert.proofs.JudgingLaws.{judged}
use Rattle.tableau_cert.proofs.judging.verdict_over.Goals as goal

pub verdict_after-requires-clause-grown : goal.verdict_after-requires-clause-grown
verdict_after-requires-clause-grown c = grown-both _ _ _ c.requires.grown c.in_ok-start.ensures.grown

pub returns : goal.returns
returns c = let P = c.args.problem.now in let x = the_moves c.args.moves.now in
    c.in_ok-verdict.ensures ∙ ap (λ r. resolved_verdict x.limit r (map (closer_of P) x.moves) (strings_are_short P (bare_instances x))) c.in_ok-start.ensures.outcome ∙ judged P x
