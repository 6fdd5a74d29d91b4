use Rattle.std.proofs.Common.{sym, ◌∙◌, arith}
use Rattle.calculus.specs.Equality.{contains}
use Rattle.finite_model.proofs.ArgLaws.{all-on, all-false, all-end}
use Rattle.finite_model.proofs.asked.includes.Goals as goal

pub loop-other-preserved : goal.loop-other-preserved
loop-other-preserved c = sym (all-on (contains c.args.list.now) c.args.others.now c.loop-other.other-index (omega arith) (sym c.has.ensures ∙ c.if-not-has.false)) ∙ c.loop-other.invariant

pub returns-then-not-has : goal.returns-then-not-has
returns-then-not-has c = sym (all-false (contains c.args.list.now) c.args.others.now c.loop-other.other-index (omega arith) (sym c.has.ensures ∙ c.if-not-has.true)) ∙ c.loop-other.invariant

pub returns : goal.returns
returns c = sym (all-end (contains c.args.list.now) c.args.others.now c.loop-other.other-index (omega arith)) ∙ c.loop-other.invariant
