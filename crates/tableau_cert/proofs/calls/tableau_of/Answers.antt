use Rattle.std.proofs.Common.{◌≡◌, ap, subst, sym, ◌∙◌}
use Rattle.calculus.specs.TableauText.{tableau_rejected}
use Rattle.tableau_cert.specs.Building.{IsBuilt, built_tableau}
use Rattle.tableau_text.specs.MovesView.{the_moves}
use Rattle.tableau_cert.specs.VerdictView.{the_verdict}
use Rattle.tableau_cert.proofs.BuiltLaws.{built-closed}
use Rattle.tableau_cert.proofs.calls.tableau_of.Goals as goal

pub returns-in-Rejected-clause-bad : goal.returns-in-Rejected-clause-bad
returns-in-Rejected-clause-bad c line fault e =
    let p : c.in-Rejected.line ≡ line = cc in
    let q : c.in-Rejected.fault ≡ fault = cc in
    sym c.in_ok-verdict.ensures ∙ ap the_verdict c.in-Rejected.is ∙ (λ i. tableau_rejected (p i) (q i))

pub returns-in_ok-tableau-in-Accepted-clause-built : goal.returns-in_ok-tableau-in-Accepted-clause-built
returns-in_ok-tableau-in-Accepted-clause-built c = let P = c.args.problem.now in let x = the_moves c.args.moves.now in let r = c.in_ok-resolved-in-Accepted.ensures in
    subst (IsBuilt P x) (sym (c.in_ok-tableau-in-Accepted.ensures ∙ (λ i. built_tableau (r.start i) (r.closers i)))) (built-closed P x (sym c.in_ok-verdict.ensures ∙ ap the_verdict c.in-Accepted.is))
