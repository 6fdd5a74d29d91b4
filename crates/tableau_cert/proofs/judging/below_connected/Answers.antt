use Rattle.std.specs.List.{list_all}
use Rattle.calculus.specs.Tableaux.{is_new_on}
use Rattle.std.proofs.Common.{◌∷◌, map, refl, ap, subst, sym, ◌∙◌}
use Rattle.tableau_core.proofs.Numbered.ClosingLaws.{map-remove}
use Rattle.tableau_core.specs.Numbered.LiteralView.{the_literal}
use Rattle.tableau_cert.specs.Gathering.{AreNormalLiterals, IsNormalLiteral}
use Rattle.tableau_cert.specs.Judging.{goal_at, the_path}
use Rattle.tableau_cert.proofs.JudgingLaws.{irregular, regular}
use Rattle.tableau_cert.proofs.AllLaws.{all-removed}
use Rattle.tableau_cert.proofs.judging.below_connected.Goals as goal

pub returns-then-not-are_new-clause-closed : goal.returns-then-not-are_new-clause-closed
returns-then-not-are_new-clause-closed c = let ls = c.args.table.now in
    irregular (goal_at ls c.args.path.now c.args.goal) c.args.place (map (the_literal ls) c.args.literals.now) (map (the_literal ls) c.deref.result.now) c.is_connected.result c.are_new.result _ c.is_connected.ensures c.if-not-is_connected.false c.are_new.ensures c.if-not-are_new.true (ap (map (the_literal ls)) (c.deref.ensures.value ∙ c.in_ok-goals.ensures) ∙ map-remove (the_literal ls) c.args.literals.now c.args.place) refl

pub returns-clause-closed : goal.returns-clause-closed
returns-clause-closed c = let ls = c.args.table.now in
    regular (goal_at ls c.args.path.now c.args.goal) c.args.place (map (the_literal ls) c.args.literals.now) (map (the_literal ls) c.in_ok-goals.goals.items) c.is_connected.result c.are_new.result _ c.is_connected.ensures c.if-not-is_connected.false (c.are_new.ensures ∙ ap (λ xs. list_all (is_new_on (the_literal ls c.args.goal ∷ the_path ls c.args.path.now)) (map (the_literal ls) xs)) c.deref.ensures.value) c.if-not-are_new.false (ap (map (the_literal ls)) c.in_ok-goals.ensures ∙ map-remove (the_literal ls) c.args.literals.now c.args.place) refl

pub returns-clause-normal : goal.returns-clause-normal
returns-clause-normal c = let ls = c.args.table.now in subst (AreNormalLiterals ls) (sym c.in_ok-goals.ensures) (all-removed (IsNormalLiteral ls) c.args.place c.args.literals.now c.requires)
