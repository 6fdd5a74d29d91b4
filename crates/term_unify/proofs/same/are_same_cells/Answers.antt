use Rattle.std.proofs.Common.{arith, inl, inr, length, map}
use Rattle.std.proofs.lemmas.List.{length-map}
use Rattle.term_store.specs.RefView.{the_place}
use Rattle.term_unify.proofs.SameLaws.{mapped-differ, place-below, same-cells, same-next, same-start}
use Rattle.term_unify.proofs.same.are_same_cells.Goals as goal

pub returns-then-xs-ys-clause-different : goal.returns-then-xs-ys-clause-different
returns-then-xs-ys-clause-different c = λ e. inl (mapped-differ c.args.xs.now c.args.ys.now c.if-xs-ys.true)

pub loop-i-init : goal.loop-i-init
loop-i-init c = same-start c.args.store.now.store (map the_place c.args.xs.now) (map the_place c.args.ys.now)

pub are_same-requires-clause-left : goal.are_same-requires-clause-left
are_same-requires-clause-left c = place-below (length c.args.store.now.store.cells) (map the_place c.args.xs.now) c.loop-i.i c.reference_at.result.0 c.requires.left c.reference_at.ensures

pub are_same-requires-clause-right : goal.are_same-requires-clause-right
are_same-requires-clause-right c = place-below (length c.args.store.now.store.cells) (map the_place c.args.ys.now) c.loop-i.i c.reference_at-in-loop-i.result.0 c.requires.right c.reference_at-in-loop-i.ensures

pub returns-then-not-branch-clause-different : goal.returns-then-not-branch-clause-different
returns-then-not-branch-clause-different c = λ e. inr (c.loop-i.i, c.reference_at.result.0, c.reference_at-in-loop-i.result.0, c.reference_at.ensures, c.reference_at-in-loop-i.ensures, c.in_ok-are_same.ensures.different c.if-not-branch.true)

pub loop-i-preserved : goal.loop-i-preserved
loop-i-preserved c = same-next c.args.store.now.store (map the_place c.args.xs.now) (map the_place c.args.ys.now) c.loop-i.i c.reference_at.result.0 c.reference_at-in-loop-i.result.0 c.loop-i.invariant c.reference_at.ensures c.reference_at-in-loop-i.ensures (c.in_ok-are_same.ensures.same c.if-not-branch.false)

pub returns-clause-same : goal.returns-clause-same
returns-clause-same c = λ t.
    let n = length-map c.args.xs.now the_place in
    let m = length-map c.args.ys.now the_place in
    same-cells c.args.store.now.store (map the_place c.args.xs.now) (map the_place c.args.ys.now) c.loop-i.i c.loop-i.invariant (omega (arith, n)) (omega (arith, m))
