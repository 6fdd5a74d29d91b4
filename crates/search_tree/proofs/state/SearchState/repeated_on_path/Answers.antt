use Rattle.std.proofs.lemmas.Option.{slice_get_within}
use Rattle.search_tree.proofs.GivenUpLaws.{lost-repeated}
use Rattle.search_tree.proofs.MoveLaws.{goals-repeated, leftmost-wanted}
use Rattle.search_tree.proofs.state.SearchState.repeated_on_path.Goals as goal

pub repeated_above-requires-clause-goal : goal.repeated_above-requires-clause-goal
repeated_above-requires-clause-goal c =
    let (x, at, below) = leftmost-wanted c.requires.0 c.requires.1 c.requires.2 c.requires.3 c.requires.4 c.args.store.now.store c.args.self.now.tree.steps.items c.args.self.now.tree.goals.items c.args.self.now.tree.open c.in-Some.next c.requires.5 c.in-Some.is in
    slice_get_within c.args.self.now.tree.goals.items c.in-Some.next at.goal at.stands

pub returns-in_ok-found-in-Some-clause-dead : goal.returns-in_ok-found-in-Some-clause-dead
returns-in_ok-found-in-Some-clause-dead c = λ n e P m base d p h. goals-repeated P m base d p c.args.store.now.store c.args.self.now.tree.steps.items c.args.self.now.tree.goals.items c.args.self.now.tree.open n h (c.in_ok-found-in-Some.ensures n e)

pub returns-in_ok-found-in-Some-clause-lost : goal.returns-in_ok-found-in-Some-clause-lost
returns-in_ok-found-in-Some-clause-lost c = λ n e P m base d p h. lost-repeated P m base d p c.args.store.now.store c.args.self.now.tree.steps.items c.args.self.now.tree.goals.items c.args.self.now.tree.open n h (c.in_ok-found-in-Some.ensures n e)
