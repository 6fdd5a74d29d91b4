use Rattle.std.proofs.Common.{arith, map}
use Rattle.term_store.specs.RefView.{the_place}
use Rattle.search_tree.proofs.UnifyingLaws.{lengths-clash, mapped-differ, names-after, term-below-left, term-below-right, unified-clash, unified-next, unified-start}
use Rattle.search_tree.proofs.atoms.unify_all.Goals as goal

pub returns-then-xs-ys-clause-clash : goal.returns-then-xs-ys-clause-clash
returns-then-xs-ys-clause-clash c = λ e. lengths-clash c.args.store.now.store (map the_place c.args.xs.now) (map the_place c.args.ys.now) (mapped-differ c.args.xs.now c.args.ys.now c.if-xs-ys.true)

pub loop-i-init : goal.loop-i-init
loop-i-init c = record { unified = unified-start c.args.store.now.store (map the_place c.args.xs.now) (map the_place c.args.ys.now); room = (omega arith, omega arith); closed = c.requires.closed }

pub unify_pair-requires-clause-left : goal.unify_pair-requires-clause-left
unify_pair-requires-clause-left c = term-below-left c.args.store.now.store c.loop-i.store.store (map the_place c.args.xs.now) (map the_place c.args.ys.now) c.loop-i.i c.reference_at.result.0 c.loop-i.invariant.unified c.requires.left c.reference_at.ensures

pub unify_pair-requires-clause-right : goal.unify_pair-requires-clause-right
unify_pair-requires-clause-right c = term-below-right c.args.store.now.store c.loop-i.store.store (map the_place c.args.xs.now) (map the_place c.args.ys.now) c.loop-i.i c.reference_at-in-loop-i.result.0 c.loop-i.invariant.unified c.requires.right c.reference_at-in-loop-i.ensures

pub returns-in-None-clause-clash : goal.returns-in-None-clause-clash
returns-in-None-clause-clash c = λ e. unified-clash c.args.store.now.store c.loop-i.store.store (map the_place c.args.xs.now) (map the_place c.args.ys.now) c.loop-i.i c.reference_at.result.0 c.reference_at-in-loop-i.result.0 c.loop-i.invariant.unified c.reference_at.ensures c.reference_at-in-loop-i.ensures c.requires.left c.requires.right (rw c.in-None.is at c.in_ok-number.ensures.unifies)

pub loop-i-preserved : goal.loop-i-preserved
loop-i-preserved c =
    let a = c.loop-i.invariant.room in
    let b = c.unify_pair.ensures.room in
    record {
      unified = unified-next c.args.store.now.store c.loop-i.store.store c.unify_pair.new.store.store (map the_place c.args.xs.now) (map the_place c.args.ys.now) c.loop-i.i c.reference_at.result.0 c.reference_at-in-loop-i.result.0 c.loop-i.invariant.unified c.reference_at.ensures c.reference_at-in-loop-i.ensures c.requires.left c.requires.right (rw c.in-Some.is at c.in_ok-number.ensures.unifies) c.unify_pair.ensures.binds c.unify_pair.ensures.within c.unify_pair.ensures.marks;
      room = (omega (arith, a, b), omega (arith, a, b));
      closed = rw c.in-Some.is at c.in_ok-number.ensures.closed;
    }

pub returns-in_err-number-clause-names : goal.returns-in_err-number-clause-names
returns-in_err-number-clause-names c = names-after c.args.store.now.store c.loop-i.store.store c.unify_pair.new.store.store (map the_place c.args.xs.now) (map the_place c.args.ys.now) c.loop-i.i c.reference_at.result.0 c.reference_at-in-loop-i.result.0 c.loop-i.invariant.unified c.reference_at.ensures c.reference_at-in-loop-i.ensures c.unify_pair.ensures.binds c.unify_pair.ensures.within

pub returns-in-None-clause-names : goal.returns-in-None-clause-names
returns-in-None-clause-names c = names-after c.args.store.now.store c.loop-i.store.store c.unify_pair.new.store.store (map the_place c.args.xs.now) (map the_place c.args.ys.now) c.loop-i.i c.reference_at.result.0 c.reference_at-in-loop-i.result.0 c.loop-i.invariant.unified c.reference_at.ensures c.reference_at-in-loop-i.ensures c.unify_pair.ensures.binds c.unify_pair.ensures.within
