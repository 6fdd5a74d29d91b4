use Rattle.tableau_core.specs.Numbered.SpotView.{the_mark_at}
use Rattle.tableau_core.proofs.Numbered.LabelLaws.{equal-begins, unequal-lengths}
use Rattle.tableau_core.proofs.allowance.is_same_label.Goals as goal

pub returns-then-home-at : goal.returns-then-home-at
returns-then-home-at c = unequal-lengths (the_mark_at c.args.table.now) c.args.home.now c.args.at.now c.if-home-at.true

pub returns : goal.returns
returns c = equal-begins (the_mark_at c.args.table.now) c.args.home.now c.args.at.now c.begins.result c.if-home-at.false c.begins.ensures
