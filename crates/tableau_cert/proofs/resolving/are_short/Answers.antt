use Rattle.std.proofs.Common.{ap, sym, ◌∙◌}
use Rattle.std.specs.Prelude.{is_none}
use Rattle.calculus.specs.Labels.{greatest_length}
use Rattle.calculus.specs.Syntax.{Setting}
use Rattle.calculus.specs.TableauText.{bare_instances}
use Rattle.calculus.specs.Tableaux.{total_steps}
use Rattle.tableau_text.specs.MovesView.{the_moves}
use Rattle.tableau_cert.proofs.ResolvingLaws.{short-all, short-bounded}
use Rattle.tableau_cert.proofs.resolving.are_short.Goals as goal

pub returns-in-Some : goal.returns-in-Some
returns-in-Some c = short-bounded c.args.problem.now (the_moves c.args.moves.now) (ap is_none (sym (c.greatest_length.ensures ∙ ap greatest_length (c.logic.ensures ∙ ap (λ (s : Setting). s.logic) c.setting.ensures.setting)) ∙ c.in-Some.is))

pub returns-in-None : goal.returns-in-None
returns-in-None c = let P = c.args.problem.now in let x = the_moves c.args.moves.now in
    short-all P x _ (ap is_none (sym (c.greatest_length.ensures ∙ ap greatest_length (c.logic.ensures ∙ ap (λ (s : Setting). s.logic) c.setting.ensures.setting)) ∙ c.in-None.is)) (c.are_all_within.ensures (total_steps P (bare_instances x)) c.requires)
