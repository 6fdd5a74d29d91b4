use Rattle.std.proofs.Common.{ap, arith, map, refl, ◌||◌}
use Rattle.calculus.specs.Ground.{values_tree}
use Rattle.conversion_theory.specs.Turns.{names_of_values, names_of_value}
use Rattle.formula_core.specs.GroundLists.{the_value, IsLowerValue}
use Rattle.name_order.specs.ByNumber.Inside.{has}
use Rattle.name_order.specs.ByNumber.Seeing.{sees}
use Rattle.name_order.proofs.ByNumber.DepthLaws.{all-item}
use Rattle.name_order.proofs.ByNumber.InsideLaws.{see-end, see-step}
use Rattle.name_order.proofs.inside.look_at_values.Goals as goal

pub loop-value-init : goal.loop-value-init
loop-value-init c =
    let ls = c.args.table.now in
    record {
      normal = c.requires.normal;
      bound = c.requires.bound;
      seen = λ n. ap (λ xs. sees ls c.args.search.now n || has n (names_of_values (values_tree xs))) c.values-values.ensures.list;
    }

pub loop-value-preserved : goal.loop-value-preserved
loop-value-preserved c =
    let ls = c.args.table.now in
    let xs = c.values-values.result.now in
    record {
      normal = c.in_ok-see_value.ensures.sees.normal;
      bound = c.in_ok-see_value.ensures.bound c.args.list.0 (all-item (IsLowerValue ls c.args.list.0) xs c.loop-value.value-index _ _ c.values-values.ensures.lower (omega arith) refl) c.loop-value.invariant.bound;
      seen = see-step ls (λ ys. names_of_values (values_tree (map (the_value ls) ys))) (λ y. names_of_value (the_value ls y)) (λ y ys. refl) c.loop-value.search c.see_value.new.search xs c.loop-value.value-index _ _ _ (omega arith) refl c.in_ok-see_value.ensures.sees c.loop-value.invariant.seen;
    }

pub returns-clause-sees : goal.returns-clause-sees
returns-clause-sees c =
    let ls = c.args.table.now in
    see-end ls (λ ys. names_of_values (values_tree (map (the_value ls) ys))) refl c.args.search.now c.loop-value.search c.values-values.result.now c.loop-value.value-index _ (omega arith) c.loop-value.invariant.normal c.loop-value.invariant.seen
