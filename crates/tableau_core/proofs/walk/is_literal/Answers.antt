use Rattle.std.proofs.Common.{rules, true≢false, ap, sym, ◌∙◌}
use Rattle.calculus.specs.Ground.{GroundLiteral}
use Rattle.calculus.specs.Lists.{terms_tree}
use Rattle.tableau_core.specs.Numbered.LiteralView.{the_literal}
use Rattle.tableau_core.specs.Walks.{literal_at}
use Rattle.tableau_core.specs.Numbered.WalkView.{the_spot}
use Rattle.tableau_core.proofs.WalkLaws.{literals-apart, literals-alike}
use Rattle.tableau_core.proofs.walk.is_literal.Goals as goal

pub returns-then-not-are_instances : goal.returns-then-not-are_instances
returns-then-not-are_instances c = literals-apart (literal_at c.args.sign c.args.p.0 (terms_tree c.args.args.now) ((the_spot c.args.table.now) c.args.spot.now)) ((the_literal c.args.table.now) c.args.literal) (λ e. true≢false (sym (c.are_instances.ensures.1 (ap (λ (x : GroundLiteral). x.args) e)) ∙ c.if-not-are_instances.true))

pub returns : goal.returns
returns c = literals-alike (literal_at c.args.sign c.args.p.0 (terms_tree c.args.args.now) ((the_spot c.args.table.now) c.args.spot.now)) ((the_literal c.args.table.now) c.args.literal) c.is_label.result (search rules) (search rules) (c.are_instances.ensures.0 c.if-not-are_instances.false) (λ t. c.is_label.ensures.0 t ∙ c.marks.ensures.list, λ e. c.is_label.ensures.1 (e ∙ sym c.marks.ensures.list))
