use Rattle.std.proofs.Common.{subst, sym}
use Rattle.calculus.specs.Syntax.{Problem}
use Rattle.tableau_core.specs.Numbered.Known.{AreAllAdmitted}
use Rattle.tableau_text.specs.MovesView.{the_moves}
use Rattle.tableau_cert.specs.Resolving.{IsResolved}
use Rattle.tableau_cert.proofs.resolving.resolve.Goals as goal

pub resolve_over-requires-clause-admitted : goal.resolve_over-requires-clause-admitted
resolve_over-requires-clause-admitted c = subst (AreAllAdmitted c.in_ok-sized.sized c.args.moves.now.table) (sym c.deref.ensures.value) c.in_ok-admitted.ensures

pub returns : goal.returns
returns c = subst (λ (P : Problem). IsResolved P (the_moves c.args.moves.now) c.in_ok-resolved.resolved) c.in_ok-sized.ensures c.in_ok-resolved.ensures
