use Rattle.std.proofs.Common.{◌-◌, ap, ◌∙◌}
use Rattle.search_tree.proofs.Places.{read-there}
use Rattle.search_tree.proofs.PointLaws.{depth-of}
use Rattle.connection_search.proofs.limit_search.LimitSearch.room.Goals as goal

pub returns : goal.returns
returns c = λ x g. c.saturating_sub.ensures ∙ ap (λ n. c.args.self.now.limit - n) (depth-of c.args.tree.now.steps.items c.args.tree.now.goals.items c.args.goal x c.index.result.now g (read-there c.args.tree.now.goals.items c.args.goal c.index.result.now g.goal g.stands c.index.ensures))
