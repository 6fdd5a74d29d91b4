use Rattle.search_tree.proofs.MoveLaws.{goals-repeated}
use Rattle.search_tree.proofs.state.SearchState.is_regular.Goals as goal

pub returns-clause-repeated : goal.returns-clause-repeated
returns-clause-repeated c = λ f P m base d p h. goals-repeated P m base d p c.args.store.now.store c.args.self.now.tree.steps.items c.args.self.now.tree.goals.items c.args.self.now.tree.open 0 h (c.in_ok-new.ensures.repeated f)
