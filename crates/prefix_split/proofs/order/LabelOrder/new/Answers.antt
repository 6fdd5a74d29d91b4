use Rattle.std.proofs.Common.{refl}
use Rattle.prefix_split.specs.declared.order.Relation.TheVariants.{Strict, Weak}
use Rattle.prefix_split.proofs.OrderLaws.{begins-same}
use Rattle.prefix_split.proofs.order.LabelOrder.new.Goals as goal

pub loop-u-init : goal.loop-u-init
loop-u-init c = λ value. c.in_ok-above.ensures value Weak

pub loop-u-preserved : goal.loop-u-preserved
loop-u-preserved c = λ value. c.set.ensures value Weak (begins-same (value c.loop-u.u)) (c.loop-u.invariant value)

pub returns : goal.returns
returns c = λ value. record { above = c.loop-u.invariant value; shorter = c.in_ok-shorter.ensures value Strict; possible = refl }
