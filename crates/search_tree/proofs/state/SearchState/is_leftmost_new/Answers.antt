use Rattle.search_tree.proofs.GivenUpLaws.{lost-leftmost}
use Rattle.search_tree.proofs.MoveLaws.{leftmost-repeated, leftmost-wanted}
use Rattle.search_tree.proofs.state.SearchState.is_leftmost_new.Goals as goal

pub is_new-requires : goal.is_new-requires
is_new-requires c = leftmost-wanted c.requires.0 c.requires.1 c.requires.2 c.requires.3 c.requires.4 c.args.store.now.store c.args.self.now.tree.steps.items c.args.self.now.tree.goals.items c.args.self.now.tree.open c.in-Some.next c.requires.5 c.in-Some.is

pub returns-in_ok-new-in-Some-clause-repeated : goal.returns-in_ok-new-in-Some-clause-repeated
returns-in_ok-new-in-Some-clause-repeated c = λ f P m base d p h. leftmost-repeated P m base d p c.args.store.now.store c.args.self.now.tree.steps.items c.args.self.now.tree.goals.items c.args.self.now.tree.open c.in-Some.next h c.in-Some.is (c.in_ok-new-in-Some.ensures.repeated f)

pub returns-in_ok-new-in-Some-clause-lost : goal.returns-in_ok-new-in-Some-clause-lost
returns-in_ok-new-in-Some-clause-lost c = λ f P m base d n p h. lost-leftmost P m base d p c.args.store.now.store c.args.self.now.tree.steps.items c.args.self.now.tree.goals.items c.args.self.now.tree.open n c.in-Some.next h c.in-Some.is (c.in_ok-new-in-Some.ensures.repeated f)
