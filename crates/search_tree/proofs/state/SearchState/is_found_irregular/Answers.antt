use Rattle.search_tree.proofs.MoveLaws.{goals-repeated}
use Rattle.search_tree.proofs.state.SearchState.is_found_irregular.Goals as goal

pub returns-in-Some-clause-irregular : goal.returns-in-Some-clause-irregular
returns-in-Some-clause-irregular c = λ f P m base d p h. goals-repeated P m base d p c.args.store.now.store c.args.self.now.tree.steps.items c.args.self.now.tree.goals.items c.args.self.now.tree.open c.args.self.now.seen h (c.in_ok-goal.ensures.repeated c.in-Some.goal c.in-Some.is)
