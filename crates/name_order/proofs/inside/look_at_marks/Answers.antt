use Rattle.std.proofs.Common.{ap, arith, map, refl, ◌||◌}
use Rattle.calculus.specs.Ground.{marks_tree}
use Rattle.conversion_theory.specs.Turns.{names_of_marks, names_of_mark}
use Rattle.formula_core.specs.GroundLists.{the_mark, IsLowerMark}
use Rattle.name_order.specs.ByNumber.Inside.{has}
use Rattle.name_order.specs.ByNumber.Seeing.{sees}
use Rattle.name_order.proofs.ByNumber.DepthLaws.{all-item}
use Rattle.name_order.proofs.ByNumber.InsideLaws.{see-end, see-step}
use Rattle.name_order.proofs.inside.look_at_marks.Goals as goal

pub loop-mark-init : goal.loop-mark-init
loop-mark-init c =
    let ls = c.args.table.now in
    record {
      normal = c.requires.normal;
      bound = c.requires.bound;
      seen = λ n. ap (λ xs. sees ls c.args.search.now n || has n (names_of_marks (marks_tree xs))) c.marks-marks.ensures.list;
    }

pub loop-mark-preserved : goal.loop-mark-preserved
loop-mark-preserved c =
    let ls = c.args.table.now in
    let xs = c.marks-marks.result.now in
    record {
      normal = c.in_ok-see_mark.ensures.sees.normal;
      bound = c.in_ok-see_mark.ensures.bound c.args.list.0 (all-item (IsLowerMark ls c.args.list.0) xs c.loop-mark.mark-index _ _ c.marks-marks.ensures.lower (omega arith) refl) c.loop-mark.invariant.bound;
      seen = see-step ls (λ ys. names_of_marks (marks_tree (map (the_mark ls) ys))) (λ y. names_of_mark (the_mark ls y)) (λ y ys. refl) c.loop-mark.search c.see_mark.new.search xs c.loop-mark.mark-index _ _ _ (omega arith) refl c.in_ok-see_mark.ensures.sees c.loop-mark.invariant.seen;
    }

pub returns-clause-sees : goal.returns-clause-sees
returns-clause-sees c =
    let ls = c.args.table.now in
    see-end ls (λ ys. names_of_marks (marks_tree (map (the_mark ls) ys))) refl c.args.search.now c.loop-mark.search c.marks-marks.result.now c.loop-mark.mark-index _ (omega arith) c.loop-mark.invariant.normal c.loop-mark.invariant.seen
