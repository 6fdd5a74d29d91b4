use Rattle.std.proofs.Common.{arith, inl, inr}
use Rattle.term_unify.proofs.ClosedLaws.{closed-bound, closed-none}
use Rattle.store_theory.specs.Bindings.{with_binding}
use Rattle.term_unify.proofs.solve.closed_by.Goals as goal

pub returns-then-below-v : goal.returns-then-below-v
returns-then-below-v c = λ s sort o. let l = c.if-below-v.true in closed-bound c.args.below s c.args.v.0 c.args.to.0 sort o (inl (omega (arith, l)))

pub returns-then-to-below : goal.returns-then-to-below
returns-then-to-below c = λ s sort o. let l = c.if-to-below.true in closed-bound c.args.below s c.args.v.0 c.args.to.0 sort o (inr (omega (arith, l)))

pub returns : goal.returns
returns c = λ s sort o h. closed-none (with_binding c.args.v.0 c.args.to.0 s)
