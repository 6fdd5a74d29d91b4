use Rattle.std.proofs.Common.{sym, ◌∙◌, ap, arith}
use Rattle.calculus.specs.Equality.{contains}
use Rattle.calculus.specs.Structures.{includes}
use Rattle.finite_model.proofs.WorldChecks.{below-on, below-false, below-begun, below-ended}
use Rattle.finite_model.proofs.asked.includes_below.Goals as goal

pub loop-number-init : goal.loop-number-init
loop-number-init c = ap (includes c.args.list.now) (below-begun c.args.count)

pub loop-number-preserved : goal.loop-number-preserved
loop-number-preserved c = sym (below-on (contains c.args.list.now) c.loop-number.number c.args.count (omega arith) (sym c.has.ensures ∙ c.if-not-has.false)) ∙ c.loop-number.invariant

pub returns-then-not-has : goal.returns-then-not-has
returns-then-not-has c = sym (below-false (contains c.args.list.now) c.loop-number.number c.args.count (omega arith) (sym c.has.ensures ∙ c.if-not-has.true)) ∙ c.loop-number.invariant

pub returns : goal.returns
returns c = sym (ap (includes c.args.list.now) (below-ended c.loop-number.number c.args.count (omega arith))) ∙ c.loop-number.invariant
