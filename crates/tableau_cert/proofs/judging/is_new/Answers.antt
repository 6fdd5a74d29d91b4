use Rattle.tableau_core.specs.Numbered.LiteralView.{the_literal}
use Rattle.tableau_cert.proofs.JudgingLaws.{new-else, new-then}
use Rattle.tableau_cert.proofs.judging.is_new.Goals as goal

pub returns-then-is_new_on : goal.returns-then-is_new_on
returns-then-is_new_on c = new-then c.args.table.now c.args.path.now (the_literal c.args.table.now c.args.above) (the_literal c.args.table.now c.args.goal) c.is_new_on.result c.is_new_on-then-is_new_on.result c.is_new_on.ensures c.if-is_new_on.true c.is_new_on-then-is_new_on.ensures

pub returns-else-is_new_on : goal.returns-else-is_new_on
returns-else-is_new_on c = new-else c.args.table.now c.args.path.now (the_literal c.args.table.now c.args.above) (the_literal c.args.table.now c.args.goal) c.is_new_on.result c.is_new_on.ensures c.if-is_new_on.false
