use Rattle.search_tree.specs.GoalKeys.{variables_in}
use Rattle.search_tree.proofs.failed.Failed.add.Goals as goal

pub returns : goal.returns
returns c = λ P d x h g l m. c.in_ok-add_key.ensures P d h (m (variables_in c.read.new.self) c.read.new.self.parts.items (c.in_ok-read.ensures c.if-not-read.false x g l))
