use Rattle.std.proofs.Common.{inl, inr}
use Rattle.term_unify.proofs.OnePairLaws.{different-ends, differs-binding, same-ends}
use Rattle.term_unify.proofs.solve.Unifier.are_same.Goals as goal

pub returns-in-Apart-clause-different : goal.returns-in-Apart-clause-different
returns-in-Apart-clause-different c = λ t. inl c.in-Apart.ensures.step

pub returns-in-Bind-clause-different : goal.returns-in-Bind-clause-different
returns-in-Bind-clause-different c = λ t. inr (_, _, differs-binding c.args.store.now.store c.args.a.0 c.args.b.0 _ _ c.in-Bind.ensures.step)

pub returns-in_ok-same-in-Parts-clause-same : goal.returns-in_ok-same-in-Parts-clause-same
returns-in_ok-same-in-Parts-clause-same c = λ t. same-ends c.args.store.now.store c.args.a.0 c.args.b.0 c.in-Parts.left.0 c.in-Parts.right.0 c.in-Parts.ensures.step (c.in_ok-same-in-Parts.ensures.same t)

pub returns-in_ok-same-in-Parts-clause-different : goal.returns-in_ok-same-in-Parts-clause-different
returns-in_ok-same-in-Parts-clause-different c = λ t. different-ends c.args.store.now.store c.args.a.0 c.args.b.0 c.in-Parts.left.0 c.in-Parts.right.0 c.in-Parts.ensures.step (c.in_ok-same-in-Parts.ensures.different t)
