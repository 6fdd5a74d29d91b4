use Rattle.std.proofs.Common.{◌∙◌, arith}
use Rattle.std.proofs.Math.ListN.{length-set}
use Rattle.finite_model.proofs.TupleLaws.{flag-on, flags-begun, flags-count, flags-ended}
use Rattle.finite_model.proofs.tuples.flags_of.Goals as goal

pub loop-element-init : goal.loop-element-init
loop-element-init c = record {
  count = flags-count c.in_ok-flags.flags.items 256 (c.in_ok-flags.ensures.items_if_clones_equal (λ y e. e));
  flags = λ x h. flags-begun c.in_ok-flags.flags.items c.args.domain.now 256 x (c.in_ok-flags.ensures.items_if_clones_equal (λ y e. e)) h;
}

pub loop-element-preserved : goal.loop-element-preserved
loop-element-preserved c = record {
  count = length-set c.loop-element.flags.items _ _ ∙ c.loop-element.invariant.count;
  flags = λ x h. flag-on c.loop-element.flags.items c.args.domain.now c.loop-element.element-index x c.loop-element-test.true (omega (arith, c.type_inv.domain c.loop-element.element-index, c.loop-element.invariant.count)) (c.loop-element.invariant.flags x h);
}

pub returns-clause-flags : goal.returns-clause-flags
returns-clause-flags c = λ x h. flags-ended c.loop-element.flags.items c.args.domain.now c.loop-element.element-index x (omega arith) (c.loop-element.invariant.flags x h)
