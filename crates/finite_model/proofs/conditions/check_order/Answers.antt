use Rattle.calculus.specs.StructureText.{reflexive_conditions, transitive_conditions}
use Rattle.formula_text.proofs.Passing.{error-passed}
use Rattle.finite_model.proofs.CheckLaws.{both-hold, broken-before, broken-behind}
use Rattle.finite_model.proofs.conditions.check_order.Goals as goal

pub returns-in_err-check_worlds-clause-bad : goal.returns-in_err-check_worlds-clause-bad
returns-in_err-check_worlds-clause-bad c = λ line why e. broken-before (reflexive_conditions c.args.s.now) (transitive_conditions c.args.s.now) line why (c.in_err-check_worlds.ensures.bad line why (error-passed c.from_residual.result c.in_err-check_worlds.field-0.0 _ c.from_residual.ensures.1 e))

pub returns-in_err-check_worlds-2-clause-bad : goal.returns-in_err-check_worlds-2-clause-bad
returns-in_err-check_worlds-2-clause-bad c = λ line why e. broken-behind (reflexive_conditions c.args.s.now) (transitive_conditions c.args.s.now) line why c.in_ok-check_worlds.ensures.ok (c.in_err-check_worlds-2.ensures.bad line why (error-passed c.from_residual-in_err-check_worlds-2.result c.in_err-check_worlds-2.field-0.0 _ c.from_residual-in_err-check_worlds-2.ensures.1 e))

pub returns-clause-ok : goal.returns-clause-ok
returns-clause-ok c = both-hold (reflexive_conditions c.args.s.now) (transitive_conditions c.args.s.now) c.in_ok-check_worlds.ensures.ok c.in_ok-check_worlds-2.ensures.ok
