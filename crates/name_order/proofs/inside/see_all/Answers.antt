use Rattle.std.proofs.Common.{arith, map, refl}
use Rattle.conversion_theory.specs.Turns.{names_of_value}
use Rattle.formula_core.specs.GroundLists.{the_value}
use Rattle.name_order.specs.Mentioned.{names_in}
use Rattle.name_order.proofs.ByNumber.InsideLaws.{see-end, see-step}
use Rattle.name_order.proofs.inside.see_all.Goals as goal

pub loop-value-preserved : goal.loop-value-preserved
loop-value-preserved c =
    let ls = c.args.table.now in
    record {
      normal = c.in_ok-see_value.ensures.sees.normal;
      seen = see-step ls (λ ys. names_in (map (the_value ls) ys)) (λ y. names_of_value (the_value ls y)) (λ y ys. refl) c.loop-value.search c.see_value.new.search c.args.values.now c.loop-value.value-index _ _ _ (omega arith) refl c.in_ok-see_value.ensures.sees c.loop-value.invariant.seen;
    }

pub returns : goal.returns
returns c =
    let ls = c.args.table.now in
    see-end ls (λ ys. names_in (map (the_value ls) ys)) refl c.args.search.now c.loop-value.search c.args.values.now c.loop-value.value-index _ (omega arith) c.loop-value.invariant.normal c.loop-value.invariant.seen
