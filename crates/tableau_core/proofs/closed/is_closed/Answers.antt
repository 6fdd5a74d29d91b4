use Rattle.std.proofs.Common.{ap, subst, sym, ◌∙◌}
use Rattle.calculus.specs.Syntax.{Problem}
use Rattle.calculus.specs.Tableaux.{is_closed}
use Rattle.tableau_core.specs.Numbered.Known.{AreAllAdmitted}
use Rattle.tableau_core.specs.Numbered.TableauView.{the_tableau}
use Rattle.tableau_core.proofs.closed.is_closed.Goals as goal

pub is_closed_within-requires : goal.is_closed_within-requires
is_closed_within-requires c = subst (AreAllAdmitted _ _) (sym c.deref.ensures.value) c.in_ok-admitted.ensures

pub returns : goal.returns
returns c = c.in_ok-closed.ensures ∙ ap (λ (P : Problem). is_closed P c.args.limit (the_tableau c.args.t.now)) c.in_ok-sized.ensures
