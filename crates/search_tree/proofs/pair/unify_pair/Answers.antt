use Rattle.search_tree.proofs.pair.unify_pair.Goals as goal

pub returns-then-equal-clause-unifies : goal.returns-then-equal-clause-unifies
returns-then-equal-clause-unifies c = c.in_ok-equal.ensures.unifies c.if-equal.true

pub returns-then-equal-clause-closed : goal.returns-then-equal-clause-closed
returns-then-equal-clause-closed c = c.in_ok-equal.ensures.closed c.if-equal.true
