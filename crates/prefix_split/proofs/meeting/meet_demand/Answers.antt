use Rattle.std.proofs.Common.{◌∙◌, ap₂, arith, refl, subst, sym}
use Rattle.std.proofs.lemmas.Bool.{false≢true}
use Rattle.store_theory.specs.Systems.{AreEqual, IsDemandEquation, cells_of}
use Rattle.search_theory.specs.KeepingCells.{EquatesRight, SolvesRight}
use Rattle.term_store.specs.Asking.{Asks}
use Rattle.term_store.specs.SystemView.{the_equation, the_system}
use Rattle.search_theory.specs.Solving.{CannotEqual, IsNarrowed}
use Rattle.prefix_split.specs.Equated.{equated, equation_cells}
use Rattle.prefix_split.specs.Later.{HasNoString, KeepsRight}
use Rattle.prefix_split.proofs.LaterLaws.{later-both}
use Rattle.prefix_split.proofs.MeetingLaws.{fewer-open, forced-added, meeting-added, meeting-never, meeting-next, meeting-start, open-later, right-equated, sides-free, system-later}
use Rattle.prefix_split.proofs.meeting.meet_demand.Goals as goal

pub loop-e-init : goal.loop-e-init
loop-e-init g c = record { meeting = meeting-start (Asks (g.M.Demand.holds_for c.args.more.now)) (the_system c.args.system.now) c.args.store.now.store; same = refl; same_common = refl; same_problem = refl; right = λ σ t base low from a. a; room = (omega arith, omega arith) }

pub next-requires-clause-fits : goal.next-requires-clause-fits
next-requires-clause-fits g c = system-later c.args.store.now.store c.loop-e.store.store (the_system c.args.system.now) c.loop-e.invariant.meeting.later c.requires.fits

pub next-requires-clause-no_string : goal.next-requires-clause-no_string
next-requires-clause-no_string g c = open-later c.args.store.now.store c.loop-e.store.store (the_system c.args.system.now) c.loop-e.invariant.meeting.later c.requires.fits c.requires.free

pub make_equal-requires-clause-free_left : goal.make_equal-requires-clause-free_left
make_equal-requires-clause-free_left g c =
    let t = c.next.new.store.store in
    let y = the_system c.args.system.now in
    let d : IsDemandEquation (Asks (g.M.Demand.holds_for c.loop-e.more)) t y (the_equation c.in-Some.e) = rw c.in-Some.is at c.in_ok-e.ensures.equation in
    subst (HasNoString t) (sym c.items.ensures) (sides-free (Asks (g.M.Demand.holds_for c.loop-e.more)) t y (the_equation c.in-Some.e) d).0

pub make_equal-requires-clause-free_right : goal.make_equal-requires-clause-free_right
make_equal-requires-clause-free_right g c =
    let t = c.next.new.store.store in
    let y = the_system c.args.system.now in
    let d : IsDemandEquation (Asks (g.M.Demand.holds_for c.loop-e.more)) t y (the_equation c.in-Some.e) = rw c.in-Some.is at c.in_ok-e.ensures.equation in
    subst (HasNoString t) (sym c.items-in-Some.ensures) (sides-free (Asks (g.M.Demand.holds_for c.loop-e.more)) t y (the_equation c.in-Some.e) d).1

pub returns-in_err-make_equal-clause-later : goal.returns-in_err-make_equal-clause-later
returns-in_err-make_equal-clause-later g c =
    let m = meeting-added (Asks (g.M.Demand.holds_for c.args.more.now)) (the_system c.args.system.now) c.args.store.now.store c.loop-e.store.store c.next.new.store.store c.loop-e.invariant.meeting c.next.ensures.adds in
    later-both c.args.store.now.store c.next.new.store.store c.make_equal.new.store.store m.later c.make_equal.ensures.later

pub returns-then-not-branch-clause-never : goal.returns-then-not-branch-clause-never
returns-then-not-branch-clause-never g c = λ q.
    let t = c.next.new.store.store in
    let y = the_system c.args.system.now in
    let d : IsDemandEquation (Asks (g.M.Demand.holds_for c.loop-e.more)) t y (the_equation c.in-Some.e) = rw c.in-Some.is at c.in_ok-e.ensures.equation in
    let m = meeting-added (Asks (g.M.Demand.holds_for c.args.more.now)) y c.args.store.now.store c.loop-e.store.store t c.loop-e.invariant.meeting c.next.ensures.adds in
    meeting-never (Asks (g.M.Demand.holds_for c.args.more.now)) y c.args.store.now.store t (the_equation c.in-Some.e) c.requires.fits m
    (subst (λ f. IsDemandEquation (Asks f) t y (the_equation c.in-Some.e)) c.loop-e.invariant.same d)
    (subst (CannotEqual t) (ap₂ equated c.items.ensures c.items-in-Some.ensures) (c.in_ok-make_equal.ensures.never c.if-not-branch.true))

pub returns-then-not-branch-clause-later : goal.returns-then-not-branch-clause-later
returns-then-not-branch-clause-later g c =
    let m = meeting-added (Asks (g.M.Demand.holds_for c.args.more.now)) (the_system c.args.system.now) c.args.store.now.store c.loop-e.store.store c.next.new.store.store c.loop-e.invariant.meeting c.next.ensures.adds in
    later-both c.args.store.now.store c.next.new.store.store c.make_equal.new.store.store m.later c.make_equal.ensures.later

pub loop-e-smaller : goal.loop-e-smaller
loop-e-smaller g c =
    let t = c.next.new.store.store in
    let y = the_system c.args.system.now in
    let d : IsDemandEquation (Asks (g.M.Demand.holds_for c.loop-e.more)) t y (the_equation c.in-Some.e) = rw c.in-Some.is at c.in_ok-e.ensures.equation in
    fewer-open c.loop-e.store.store t c.make_equal.new.store.store (the_equation c.in-Some.e) c.next.ensures.adds c.make_equal.ensures.binds
    (subst (λ x. IsNarrowed t c.make_equal.new.store.store (λ σ. AreEqual σ x)) (ap₂ equated c.items.ensures c.items-in-Some.ensures) (c.in_ok-make_equal.ensures.made c.if-not-branch.false)) d.unequal

pub loop-e-preserved : goal.loop-e-preserved
loop-e-preserved g c =
    let t = c.next.new.store.store in
    let y = the_system c.args.system.now in
    let d : IsDemandEquation (Asks (g.M.Demand.holds_for c.loop-e.more)) t y (the_equation c.in-Some.e) = rw c.in-Some.is at c.in_ok-e.ensures.equation in
    let m = meeting-added (Asks (g.M.Demand.holds_for c.args.more.now)) y c.args.store.now.store c.loop-e.store.store t c.loop-e.invariant.meeting c.next.ensures.adds in
    let P = g.M.Demand.problem c.args.more.now in
    let asked : EquatesRight (g.M.Demand.problem c.loop-e.more) (cells_of y) c.loop-e.store.store t (the_equation c.in-Some.e) = rw c.in-Some.is at c.in_ok-e.ensures.right in
    let a = c.loop-e.invariant.room in
    let b = c.next.ensures.room in
    let k = c.make_equal.ensures.room in
    record {
      meeting = meeting-next (Asks (g.M.Demand.holds_for c.args.more.now)) y c.args.store.now.store t c.make_equal.new.store.store (the_equation c.in-Some.e) c.requires.fits m
          (subst (λ f. IsDemandEquation (Asks f) t y (the_equation c.in-Some.e)) c.loop-e.invariant.same d)
          (subst (λ x. IsNarrowed t c.make_equal.new.store.store (λ σ. AreEqual σ x)) (ap₂ equated c.items.ensures c.items-in-Some.ensures) (c.in_ok-make_equal.ensures.made c.if-not-branch.false)) c.make_equal.ensures.later;
      same = c.next.ensures.same ∙ c.loop-e.invariant.same;
      same_common = c.next.ensures.same_common ∙ c.loop-e.invariant.same_common;
      same_problem = c.next.ensures.same_problem ∙ c.loop-e.invariant.same_problem;
      right = right-equated P y c.args.store.now.store c.loop-e.store.store t c.make_equal.new.store.store (the_equation c.in-Some.e) c.loop-e.invariant.meeting.later.longer c.next.ensures.adds
          (subst (λ x. IsNarrowed t c.make_equal.new.store.store (λ σ. AreEqual σ x)) (ap₂ equated c.items.ensures c.items-in-Some.ensures) (c.in_ok-make_equal.ensures.made c.if-not-branch.false)) c.loop-e.invariant.right
          (subst (λ Q. EquatesRight Q (cells_of y) c.loop-e.store.store t (the_equation c.in-Some.e)) c.loop-e.invariant.same_problem asked)
          (subst (λ x. KeepsRight P (equation_cells x) t c.make_equal.new.store.store) (ap₂ equated c.items.ensures c.items-in-Some.ensures) (c.in_ok-make_equal.ensures.right c.if-not-branch.false P));
      room = (omega (arith, a, b, k), omega (arith, a, b, k));
    }

pub returns-clause-forced : goal.returns-clause-forced
returns-clause-forced g c = λ q. forced-added (Asks (g.M.Demand.holds_for c.args.more.now)) (the_system c.args.system.now) c.args.store.now.store c.loop-e.store.store c.next.new.store.store c.loop-e.invariant.meeting.forced c.next.ensures.adds

pub returns-clause-later : goal.returns-clause-later
returns-clause-later g c = (meeting-added (Asks (g.M.Demand.holds_for c.args.more.now)) (the_system c.args.system.now) c.args.store.now.store c.loop-e.store.store c.next.new.store.store c.loop-e.invariant.meeting c.next.ensures.adds).later

pub returns-clause-right : goal.returns-clause-right
returns-clause-right g c = λ met. subst (SolvesRight (g.M.Demand.problem c.args.more.now) (cells_of (the_system c.args.system.now)) c.args.store.now.store) (sym (c.in_ok-e.ensures.unchanged c.in_default.is)) c.loop-e.invariant.right

pub returns-then-not-branch-clause-right : goal.returns-then-not-branch-clause-right
returns-then-not-branch-clause-right g c = λ met. absurd (false≢true met)
