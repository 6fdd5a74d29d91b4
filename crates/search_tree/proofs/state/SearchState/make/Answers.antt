use Rattle.std.proofs.Common.{◌++◌, ◌∷◌, [], inl, length, subst, sym}
use Rattle.search_tree.specs.GivenUp.{IsGivenUp, IsRuledOut}
use Rattle.search_tree.specs.Points.{IsMoveAt, the_move}
use Rattle.search_tree.specs.Running.{StandsFor}
use Rattle.search_tree.proofs.state.SearchState.make.Goals as goal

pub returns-in_ok-made-in-Reduce-clause-made : goal.returns-in_ok-made-in-Reduce-clause-made
returns-in_ok-made-in-Reduce-clause-made c = λ t P base d p g cm h e. subst (λ z. StandsFor P c.args.matrix.now base d (p ++ the_move c.args.matrix.now z ∷ []) c.reduce.new.store.store c.reduce.new.self.tree.steps.items c.reduce.new.self.tree.goals.items c.reduce.new.self.tree.open) (sym c.in-Reduce.is) (c.in_ok-made-in-Reduce.ensures.made t P c.args.matrix.now base d p g h (subst (λ z. IsMoveAt c.args.matrix.now d c.args.self.now.tree.steps.items c.args.self.now.tree.goals.items g z) c.in-Reduce.is e))

pub returns-in_ok-made-in-Reduce-clause-refused : goal.returns-in_ok-made-in-Reduce-clause-refused
returns-in_ok-made-in-Reduce-clause-refused c = λ f P base d p g cm h e looks. subst (λ z. IsRuledOut P d (p ++ the_move c.args.matrix.now z ∷ []) c.args.ahead) (sym c.in-Reduce.is) (inl (c.in_ok-made-in-Reduce.ensures.refused f P c.args.matrix.now base d p g h (subst (λ z. IsMoveAt c.args.matrix.now d c.args.self.now.tree.steps.items c.args.self.now.tree.goals.items g z) c.in-Reduce.is e)))

pub returns-in_ok-made-in-Extend-clause-made : goal.returns-in_ok-made-in-Extend-clause-made
returns-in_ok-made-in-Extend-clause-made c = λ t P base d p g cm h e. subst (λ z. StandsFor P c.args.matrix.now base d (p ++ the_move c.args.matrix.now z ∷ []) c.extend.new.store.store c.extend.new.self.tree.steps.items c.extend.new.self.tree.goals.items c.extend.new.self.tree.open) (sym c.in-Extend.is) (c.in_ok-made-in-Extend.ensures.made t P base d p g cm h (subst (λ z. IsMoveAt c.args.matrix.now d c.args.self.now.tree.steps.items c.args.self.now.tree.goals.items g z) c.in-Extend.is e))

pub returns-in_ok-made-in-Extend-clause-refused : goal.returns-in_ok-made-in-Extend-clause-refused
returns-in_ok-made-in-Extend-clause-refused c = λ f P base d p g cm h e looks. subst (λ z. IsRuledOut P d (p ++ the_move c.args.matrix.now z ∷ []) c.args.ahead) (sym c.in-Extend.is) (c.in_ok-made-in-Extend.ensures.refused f P base d p g cm h (subst (λ z. IsMoveAt c.args.matrix.now d c.args.self.now.tree.steps.items c.args.self.now.tree.goals.items g z) c.in-Extend.is e) looks)

pub returns-in_ok-made-in-Reduce-clause-given_up : goal.returns-in_ok-made-in-Reduce-clause-given_up
returns-in_ok-made-in-Reduce-clause-given_up c = λ f P base d p g cm h e looks. subst (λ z. IsGivenUp P c.args.matrix.now base d (p ++ the_move c.args.matrix.now z ∷ []) (length c.args.self.now.tree.goals.items) c.reduce.new.store c.reduce.new.self.tree) (sym c.in-Reduce.is) (c.in_ok-made-in-Reduce.ensures.given_up f P c.args.matrix.now base d p g h (subst (λ z. IsMoveAt c.args.matrix.now d c.args.self.now.tree.steps.items c.args.self.now.tree.goals.items g z) c.in-Reduce.is e))

pub returns-in_ok-made-in-Extend-clause-given_up : goal.returns-in_ok-made-in-Extend-clause-given_up
returns-in_ok-made-in-Extend-clause-given_up c = λ f P base d p g cm h e looks. subst (λ z. IsGivenUp P c.args.matrix.now base d (p ++ the_move c.args.matrix.now z ∷ []) (length c.args.self.now.tree.goals.items) c.extend.new.store c.extend.new.self.tree) (sym c.in-Extend.is) (c.in_ok-made-in-Extend.ensures.given_up f P base d p g cm h (subst (λ z. IsMoveAt c.args.matrix.now d c.args.self.now.tree.steps.items c.args.self.now.tree.goals.items g z) c.in-Extend.is e) looks)
