use Rattle.std.proofs.Common.{ap, sym, ◌∙◌, map, arith}
use Rattle.calculus.specs.Lists.{terms_tree}
use Rattle.tableau_core.specs.Numbered.LiteralView.{the_literal}
use Rattle.tableau_core.specs.Numbered.WalkView.{the_left, the_spot}
use Rattle.tableau_core.proofs.WalkLaws.{left-literal, left-other_literal, left-no_literal, none-mapped}
use Rattle.tableau_core.proofs.walk.past_literal.Goals as goal

pub returns-then-not-is_literal : goal.returns-then-not-is_literal
returns-then-not-is_literal c P = left-other_literal P c.args.sign c.args.p.0 (terms_tree c.args.args.now) ((the_spot c.args.table.now) c.args.spot.now) ((the_left c.args.table.now) c.args.rest.now) ((the_literal c.args.table.now) c.in-Some.literal.now) (map (the_literal c.args.table.now) c.in-Some.literals.now) (ap (map (the_literal c.args.table.now)) c.in-Some.ensures.cases.0) (sym c.is_literal.ensures ∙ c.if-not-is_literal.true)

pub returns-in-None : goal.returns-in-None
returns-in-None c P = left-no_literal P c.args.sign c.args.p.0 (terms_tree c.args.args.now) ((the_spot c.args.table.now) c.args.spot.now) ((the_left c.args.table.now) c.args.rest.now) (none-mapped (the_literal c.args.table.now) c.args.rest.now.literals.now c.in-None.ensures.cases)

pub returns-else-not-is_literal : goal.returns-else-not-is_literal
returns-else-not-is_literal c P = left-literal P c.args.sign c.args.p.0 (terms_tree c.args.args.now) ((the_spot c.args.table.now) c.args.spot.now) ((the_left c.args.table.now) c.args.rest.now) ((the_literal c.args.table.now) c.in-Some.literal.now) (map (the_literal c.args.table.now) c.in-Some.literals.now) (ap (map (the_literal c.args.table.now)) c.in-Some.ensures.cases.0) (omega arith) (sym c.is_literal.ensures ∙ c.if-not-is_literal.false)
