use Rattle.std.proofs.Common.{arith, map}
use Rattle.std.proofs.lemmas.Bool.{false≢true}
use Rattle.std.proofs.lemmas.List.{length-map}
use Rattle.calculus.specs.declared.sort.Sort.TheVariants.{MarkSort}
use Rattle.term_store.specs.RefView.{the_place}
use Rattle.term_unify.proofs.PairLaws.{BindsOnly-same}
use Rattle.search_theory.proofs.GivingLaws.{never-length}
use Rattle.prefix_split.proofs.EqualLaws.{AreMarks, binds-next, later-next, mapped-differ, mark-within, never-next, right-next, same-all, same-next, same-start}
use Rattle.prefix_split.proofs.LaterLaws.{later-same}
use Rattle.prefix_split.proofs.equal.unify_marks.Goals as goal

pub returns-then-xs-ys-clause-never : goal.returns-then-xs-ys-clause-never
returns-then-xs-ys-clause-never c = λ e. never-length c.args.store.now.store (map the_place c.args.xs.now) (map the_place c.args.ys.now) c.requires.left (mapped-differ c.args.xs.now c.args.ys.now c.if-xs-ys.true)

pub returns-then-xs-ys-clause-binds : goal.returns-then-xs-ys-clause-binds
returns-then-xs-ys-clause-binds c = BindsOnly-same c.args.store.now.store

pub returns-then-xs-ys-clause-later : goal.returns-then-xs-ys-clause-later
returns-then-xs-ys-clause-later c = later-same c.args.store.now.store

pub loop-i-init : goal.loop-i-init
loop-i-init c = record { same = same-start c.args.store.now.store (map the_place c.args.xs.now) (map the_place c.args.ys.now); right = λ P base l from a. a; room = (omega arith, omega arith) }

pub unify-requires-clause-left : goal.unify-requires-clause-left
unify-requires-clause-left c = mark-within c.args.store.now.store c.loop-i.store.store (map the_place c.args.xs.now) c.loop-i.i c.reference_at.result.0 c.requires.left c.loop-i.invariant.same.later c.reference_at.ensures

pub unify-requires-clause-right : goal.unify-requires-clause-right
unify-requires-clause-right c = mark-within c.args.store.now.store c.loop-i.store.store (map the_place c.args.ys.now) c.loop-i.i c.reference_at-in-loop-i.result.0 c.requires.right c.loop-i.invariant.same.later c.reference_at-in-loop-i.ensures

pub returns-in_err-unify-clause-binds : goal.returns-in_err-unify-clause-binds
returns-in_err-unify-clause-binds c = binds-next c.args.store.now.store c.loop-i.store.store c.unify.new.store.store (map the_place c.args.xs.now) (map the_place c.args.ys.now) c.loop-i.i c.loop-i.invariant.same c.unify.ensures.binds

pub returns-in_err-unify-clause-later : goal.returns-in_err-unify-clause-later
returns-in_err-unify-clause-later c =
    let l : AreMarks c.args.store.now.store (map the_place c.args.xs.now) = record { sorted = c.requires.left; free = c.requires.free_left } in
    let r : AreMarks c.args.store.now.store (map the_place c.args.ys.now) = record { sorted = c.requires.right; free = c.requires.free_right } in
    later-next c.args.store.now.store c.loop-i.store.store c.unify.new.store.store (map the_place c.args.xs.now) (map the_place c.args.ys.now) c.loop-i.i c.reference_at.result.0 c.reference_at-in-loop-i.result.0 l r c.loop-i.invariant.same c.reference_at.ensures c.reference_at-in-loop-i.ensures c.unify.ensures.binds c.unify.ensures.within c.unify.ensures.marks

pub returns-then-not-branch-clause-never : goal.returns-then-not-branch-clause-never
returns-then-not-branch-clause-never c = λ e.
    let l : AreMarks c.args.store.now.store (map the_place c.args.xs.now) = record { sorted = c.requires.left; free = c.requires.free_left } in
    let r : AreMarks c.args.store.now.store (map the_place c.args.ys.now) = record { sorted = c.requires.right; free = c.requires.free_right } in
    never-next c.args.store.now.store c.loop-i.store.store (map the_place c.args.xs.now) (map the_place c.args.ys.now) c.loop-i.i c.reference_at.result.0 c.reference_at-in-loop-i.result.0 l r c.loop-i.invariant.same c.reference_at.ensures c.reference_at-in-loop-i.ensures (c.in_ok-unify.ensures.apart c.if-not-branch.true)

pub returns-then-not-branch-clause-binds : goal.returns-then-not-branch-clause-binds
returns-then-not-branch-clause-binds c = binds-next c.args.store.now.store c.loop-i.store.store c.unify.new.store.store (map the_place c.args.xs.now) (map the_place c.args.ys.now) c.loop-i.i c.loop-i.invariant.same c.unify.ensures.binds

pub returns-then-not-branch-clause-later : goal.returns-then-not-branch-clause-later
returns-then-not-branch-clause-later c =
    let l : AreMarks c.args.store.now.store (map the_place c.args.xs.now) = record { sorted = c.requires.left; free = c.requires.free_left } in
    let r : AreMarks c.args.store.now.store (map the_place c.args.ys.now) = record { sorted = c.requires.right; free = c.requires.free_right } in
    later-next c.args.store.now.store c.loop-i.store.store c.unify.new.store.store (map the_place c.args.xs.now) (map the_place c.args.ys.now) c.loop-i.i c.reference_at.result.0 c.reference_at-in-loop-i.result.0 l r c.loop-i.invariant.same c.reference_at.ensures c.reference_at-in-loop-i.ensures c.unify.ensures.binds c.unify.ensures.within c.unify.ensures.marks

pub loop-i-preserved : goal.loop-i-preserved
loop-i-preserved c =
    let l : AreMarks c.args.store.now.store (map the_place c.args.xs.now) = record { sorted = c.requires.left; free = c.requires.free_left } in
    let r : AreMarks c.args.store.now.store (map the_place c.args.ys.now) = record { sorted = c.requires.right; free = c.requires.free_right } in
    let a = c.loop-i.invariant.room in
    let b = c.unify.ensures.room in
    record {
      same = same-next c.args.store.now.store c.loop-i.store.store c.unify.new.store.store (map the_place c.args.xs.now) (map the_place c.args.ys.now) c.loop-i.i c.reference_at.result.0 c.reference_at-in-loop-i.result.0 l r c.loop-i.invariant.same c.reference_at.ensures c.reference_at-in-loop-i.ensures (c.in_ok-unify.ensures.unifies c.if-not-branch.false) c.unify.ensures.binds c.unify.ensures.within c.unify.ensures.marks;
      right = λ P. right-next P c.args.store.now.store c.loop-i.store.store c.unify.new.store.store (map the_place c.args.xs.now) (map the_place c.args.ys.now) c.loop-i.i c.reference_at.result.0 c.reference_at-in-loop-i.result.0 c.mark-now.ensures.well.fits (c.loop-i.invariant.right P) c.reference_at.ensures c.reference_at-in-loop-i.ensures c.unify.ensures.binds c.unify.ensures.within;
      room = (omega (arith, a, b), omega (arith, a, b));
    }

pub returns-clause-same : goal.returns-clause-same
returns-clause-same c = λ e.
    let n = length-map c.args.xs.now the_place in
    let m = length-map c.args.ys.now the_place in
    same-all c.args.store.now.store c.loop-i.store.store (map the_place c.args.xs.now) (map the_place c.args.ys.now) c.loop-i.i c.loop-i.invariant.same (omega (arith, n)) (omega (arith, m))

pub returns-clause-binds : goal.returns-clause-binds
returns-clause-binds c = c.loop-i.invariant.same.binds

pub returns-clause-later : goal.returns-clause-later
returns-clause-later c = c.loop-i.invariant.same.later

pub returns-then-xs-ys-clause-right : goal.returns-then-xs-ys-clause-right
returns-then-xs-ys-clause-right c = λ e. absurd (false≢true e)

pub returns-then-not-branch-clause-right : goal.returns-then-not-branch-clause-right
returns-then-not-branch-clause-right c = λ e. absurd (false≢true e)

pub returns-clause-right : goal.returns-clause-right
returns-clause-right c = λ e. c.loop-i.invariant.right
