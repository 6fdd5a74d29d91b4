use Rattle.std.proofs.Common.{ap, sym, ◌∙◌, map}
use Rattle.calculus.specs.Syntax.{Setting}
use Rattle.calculus.proofs.SpotLaws.{proper-values}
use Rattle.tableau_core.specs.Numbered.InstanceView.{the_instance}
use Rattle.tableau_core.specs.Numbered.SpotView.{the_bound, the_mark_at}
use Rattle.tableau_core.specs.Walks.{finished}
use Rattle.formula_core.specs.GroundLists.{the_value, the_values}
use Rattle.tableau_core.specs.Numbered.LiteralView.{the_literal}
use Rattle.tableau_core.proofs.InstanceLaws.{instance-from}
use Rattle.tableau_core.proofs.Numbered.KnownLaws.{values-past}
use Rattle.tableau_core.proofs.WalkLaws.{not-admitted}
use Rattle.tableau_core.proofs.walk.steps_if_allowed.Goals as goal

pub returns-then-not-are_known_values : goal.returns-then-not-are_known_values
returns-then-not-are_known_values c = not-admitted c.args.problem.now ((the_instance c.args.table.now) c.args.instance.now) (sym (proper-values c.args.problem.now (the_values c.args.table.now c.args.instance.now.values)) ∙ sym (c.are_known_values.ensures c.args.problem.now c.requires.known) ∙ c.if-not-are_known_values.true)

pub returns : goal.returns
returns c = c.finished-steps.ensures ∙ ap finished c.in_ok-left.ensures ∙ instance-from c.args.problem.now ((the_instance c.args.table.now) c.args.instance.now) _ _ _ _ _ _ _ _ _ (sym (proper-values c.args.problem.now (the_values c.args.table.now c.args.instance.now.values)) ∙ sym (c.are_known_values.ensures c.args.problem.now c.requires.known) ∙ c.if-not-are_known_values.false) (c.logic-logic.ensures ∙ ap (λ (s : Setting). s.logic) c.setting.ensures.setting) c.whole.ensures.formula c.whole.ensures.sign (ap (map (the_mark_at c.args.table.now)) (c.deref.ensures.value ∙ c.new-label.ensures.items)) (ap (map (the_value c.args.table.now)) (c.deref-2.ensures.value ∙ c.new-taken.ensures.items)) (ap (map (the_bound c.args.table.now)) (c.deref-3.ensures.value ∙ c.new-env.ensures.items)) c.items.ensures c.values.ensures.list (ap (map (the_literal c.args.table.now)) c.items-2.ensures)

pub are_known_values-requires : goal.are_known_values-requires
are_known_values-requires c = λ h. values-past c.args.table.now c.args.instance.now.values.0 _ (sym c.requires.all) h
