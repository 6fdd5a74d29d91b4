use Rattle.std.proofs.Common.{IsTrue, arith, map, subst, sym, ap₂, ◌∙◌}
use Rattle.std.proofs.lemmas.List.{length-map}
use Rattle.store_theory.specs.Systems.{AreEqual, is_label}
use Rattle.term_store.specs.RefView.{the_place}
use Rattle.term_store.specs.SystemView.{the_equation}
use Rattle.search_theory.specs.Solving.{CannotEqual, IsNarrowed}
use Rattle.std.specs.List.{flat_map}
use Rattle.std.proofs.lemmas.Bool.{false≢true}
use Rattle.prefix_split.specs.Equated.{equated, equation_cells}
use Rattle.prefix_split.specs.Later.{HasNoString}
use Rattle.prefix_split.proofs.EqualLaws.{equation-at, free-later, label-at, made-all, made-next, made-start, never-made, right-equation}
use Rattle.prefix_split.proofs.LaterLaws.{later-both}
use Rattle.prefix_split.proofs.LengthLaws.{right-both}
use Rattle.prefix_split.proofs.equal.make_all_equal.Goals as goal

pub loop-i-init : goal.loop-i-init
loop-i-init c = record { made = made-start c.args.store.now.store (map the_equation c.args.equations.now); right = λ P base l from a. a; room = (omega arith, omega arith) }

pub make_equal-requires-clause-left : goal.make_equal-requires-clause-left
make_equal-requires-clause-left c = subst (λ xs. IsTrue (is_label c.loop-i.store.store xs)) (sym c.items.ensures) (equation-at c.args.store.now.store c.loop-i.store.store (map the_equation c.args.equations.now) c.loop-i.i (the_equation c.equation_at-e.result.now) c.requires.fits c.loop-i.invariant.made.later c.equation_at-e.ensures).0

pub make_equal-requires-clause-right : goal.make_equal-requires-clause-right
make_equal-requires-clause-right c = subst (λ xs. IsTrue (is_label c.loop-i.store.store xs)) (sym c.items-in-loop-i.ensures) (equation-at c.args.store.now.store c.loop-i.store.store (map the_equation c.args.equations.now) c.loop-i.i (the_equation c.equation_at-e.result.now) c.requires.fits c.loop-i.invariant.made.later c.equation_at-e.ensures).1

pub make_equal-requires-clause-free_left : goal.make_equal-requires-clause-free_left
make_equal-requires-clause-free_left c = subst (HasNoString c.loop-i.store.store) (sym c.items.ensures) (free-later c.args.store.now.store c.loop-i.store.store c.equation_at-e.result.now.left (label-at c.args.store.now.store (map the_equation c.args.equations.now) c.loop-i.i (the_equation c.equation_at-e.result.now) c.requires.fits c.equation_at-e.ensures).0 c.loop-i.invariant.made.later (c.requires.free c.loop-i.i (the_equation c.equation_at-e.result.now) c.equation_at-e.ensures).0)

pub make_equal-requires-clause-free_right : goal.make_equal-requires-clause-free_right
make_equal-requires-clause-free_right c = subst (HasNoString c.loop-i.store.store) (sym c.items-in-loop-i.ensures) (free-later c.args.store.now.store c.loop-i.store.store c.equation_at-e.result.now.right (label-at c.args.store.now.store (map the_equation c.args.equations.now) c.loop-i.i (the_equation c.equation_at-e.result.now) c.requires.fits c.equation_at-e.ensures).1 c.loop-i.invariant.made.later (c.requires.free c.loop-i.i (the_equation c.equation_at-e.result.now) c.equation_at-e.ensures).1)

pub returns-in_err-make_equal-clause-later : goal.returns-in_err-make_equal-clause-later
returns-in_err-make_equal-clause-later c = later-both c.args.store.now.store c.loop-i.store.store c.make_equal.new.store.store c.loop-i.invariant.made.later c.make_equal.ensures.later

pub returns-then-not-branch-clause-never : goal.returns-then-not-branch-clause-never
returns-then-not-branch-clause-never c = λ e.
    let same = ap₂ equated c.items.ensures c.items-in-loop-i.ensures in
    never-made c.args.store.now.store c.loop-i.store.store (map the_equation c.args.equations.now) c.loop-i.i (the_equation c.equation_at-e.result.now) c.loop-i.invariant.made c.equation_at-e.ensures (subst (CannotEqual c.loop-i.store.store) same (c.in_ok-make_equal.ensures.never c.if-not-branch.true))

pub returns-then-not-branch-clause-later : goal.returns-then-not-branch-clause-later
returns-then-not-branch-clause-later c = later-both c.args.store.now.store c.loop-i.store.store c.make_equal.new.store.store c.loop-i.invariant.made.later c.make_equal.ensures.later

pub loop-i-preserved : goal.loop-i-preserved
loop-i-preserved c =
    let same = ap₂ equated c.items.ensures c.items-in-loop-i.ensures in
    let a = c.loop-i.invariant.room in
    let b = c.make_equal.ensures.room in
    record {
      made = made-next c.args.store.now.store c.loop-i.store.store c.make_equal.new.store.store (map the_equation c.args.equations.now) c.loop-i.i (the_equation c.equation_at-e.result.now) c.requires.fits c.loop-i.invariant.made c.equation_at-e.ensures (subst (λ x. IsNarrowed c.loop-i.store.store c.make_equal.new.store.store (λ σ. AreEqual σ x)) same (c.in_ok-make_equal.ensures.made c.if-not-branch.false)) c.make_equal.ensures.later;
      right = λ P. right-both P (flat_map equation_cells (map the_equation c.args.equations.now)) c.args.store.now.store c.loop-i.store.store c.make_equal.new.store.store c.loop-i.invariant.made.later.longer (c.loop-i.invariant.right P) (right-equation P (map the_equation c.args.equations.now) c.loop-i.i (the_equation c.equation_at-e.result.now) (map the_place c.items.result.now) (map the_place c.items-in-loop-i.result.now) c.loop-i.store.store c.make_equal.new.store.store c.equation_at-e.ensures c.items.ensures c.items-in-loop-i.ensures (c.in_ok-make_equal.ensures.right c.if-not-branch.false P));
      room = (omega (arith, a, b), omega (arith, a, b));
    }

pub returns-clause-made : goal.returns-clause-made
returns-clause-made c = λ e.
    let n = length-map c.args.equations.now the_equation in
    made-all c.args.store.now.store c.loop-i.store.store (map the_equation c.args.equations.now) c.loop-i.i c.loop-i.invariant.made (omega (arith, n))

pub returns-clause-later : goal.returns-clause-later
returns-clause-later c = c.loop-i.invariant.made.later

pub returns-then-not-branch-clause-right : goal.returns-then-not-branch-clause-right
returns-then-not-branch-clause-right c = λ e. absurd (false≢true e)

pub returns-clause-right : goal.returns-clause-right
returns-clause-right c = λ e. c.loop-i.invariant.right
