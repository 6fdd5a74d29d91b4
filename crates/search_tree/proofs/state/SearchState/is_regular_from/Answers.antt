use Rattle.search_tree.proofs.state.SearchState.is_regular_from.Goals as goal

pub returns-clause-lost : goal.returns-clause-lost
returns-clause-lost c = λ f P m base d p h. c.in_ok-new.ensures.lost f P m base d c.args.first p h
