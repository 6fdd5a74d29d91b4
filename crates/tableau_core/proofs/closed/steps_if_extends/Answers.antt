use Rattle.std.proofs.Common.{◌&&◌, length, nat_lt, slice_get, ap, sym, ◌∙◌}
use Rattle.tableau_core.specs.declared.literal.GroundLiteral.{GroundLiteral}
use Rattle.std.specs.Prelude.{List, map}
use Rattle.calculus.specs.Tableaux.{is_complement, is_new_on}
use Rattle.tableau_core.specs.Numbered.InstanceView.{the_instance}
use Rattle.tableau_core.specs.Numbered.LiteralView.{the_literal}
use Rattle.tableau_core.proofs.CountLaws.{extends-then, extends-not}
use Rattle.tableau_core.proofs.closed.steps_if_extends.Goals as goal

pub returns-then-not-may_extend : goal.returns-then-not-may_extend
returns-then-not-may_extend c = let path = map (the_literal c.args.table.now) c.args.path.now in let g = (the_literal c.args.table.now) c.args.goal in
    extends-not c.args.problem.now c.args.limit path g ((the_instance c.args.table.now) c.args.instance.now) c.args.place (sym (c.may_extend.ensures ∙ ap (λ (ls : List GroundLiteral). is_new_on path g && nat_lt (length path) c.args.limit && is_complement g (slice_get (map (the_literal c.args.table.now) ls) c.args.place)) c.items.ensures) ∙ c.if-not-may_extend.true)

pub returns : goal.returns
returns c = let path = map (the_literal c.args.table.now) c.args.path.now in let g = (the_literal c.args.table.now) c.args.goal in
    extends-then c.args.problem.now c.args.limit path g ((the_instance c.args.table.now) c.args.instance.now) c.args.place _ (sym (c.may_extend.ensures ∙ ap (λ (ls : List GroundLiteral). is_new_on path g && nat_lt (length path) c.args.limit && is_complement g (slice_get (map (the_literal c.args.table.now) ls) c.args.place)) c.items.ensures) ∙ c.if-not-may_extend.false) c.in_ok-steps.ensures
