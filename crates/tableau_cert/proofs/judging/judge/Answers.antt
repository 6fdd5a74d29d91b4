use Rattle.std.proofs.Common.{◌≡◌, subst, sym}
use Rattle.calculus.specs.Syntax.{Problem}
use Rattle.calculus.specs.TableauText.{tableau_verdict}
use Rattle.tableau_core.specs.Numbered.Known.{AreAllAdmitted}
use Rattle.tableau_text.specs.MovesView.{the_moves}
use Rattle.tableau_cert.specs.VerdictView.{the_verdict}
use Rattle.tableau_cert.proofs.judging.judge.Goals as goal

pub verdict_over-requires-clause-admitted : goal.verdict_over-requires-clause-admitted
verdict_over-requires-clause-admitted c = subst (AreAllAdmitted c.in_ok-sized.sized c.args.moves.now.table) (sym c.deref.ensures.value) c.in_ok-admitted.ensures

pub returns : goal.returns
returns c = subst (λ (P : Problem). the_verdict c.in_ok-verdict.verdict ≡ tableau_verdict P (the_moves c.args.moves.now)) c.in_ok-sized.ensures c.in_ok-verdict.ensures
