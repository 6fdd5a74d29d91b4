use Rattle.std.proofs.Common.{◌≡◌, ◌∙◌, IsTrue, arith, refl, subst, sym}
use Rattle.store_theory.specs.Bindings.{KeepsMarks}
use Rattle.store_theory.specs.Systems.{NamesItsStrings, is_system}
use Rattle.store_theory.proofs.BindingLaws.{KeepsMarks-same}
use Rattle.term_unify.proofs.PairLaws.{OnErr-always}
use Rattle.term_store.specs.SystemView.{the_system}
use Rattle.prefix_split.proofs.SearchLaws.{back-moved, bounded-moved, found-moved}
use Rattle.prefix_split.proofs.solving.solve_by_order.Goals as goal

pub returns-then-is_single-clause-marks : goal.returns-then-is_single-clause-marks
returns-then-is_single-clause-marks g c = KeepsMarks-same c.args.store.now.store

pub loop-init : goal.loop-init
loop-init g c = record { unchanged = refl; same = refl; same_common = refl; same_problem = refl; room = (omega arith, omega arith) }

pub solve_apart-requires-clause-fits : goal.solve_apart-requires-clause-fits
solve_apart-requires-clause-fits g c = subst (λ z. IsTrue (is_system z (the_system c.args.system.now))) (sym c.loop.invariant.unchanged) c.requires.fits

pub solve_apart-requires-clause-named : goal.solve_apart-requires-clause-named
solve_apart-requires-clause-named g c = subst (λ z. NamesItsStrings z (the_system c.args.system.now)) (sym c.loop.invariant.unchanged) c.requires.named

pub returns-in_err-answer-clause-err : goal.returns-in_err-answer-clause-err
returns-in_err-answer-clause-err g c = OnErr-always c.from_residual.result (c.solve_apart.new.store.store ≡ c.args.store.now.store) (c.in_err-answer.ensures.err ∙ c.loop.invariant.unchanged)

pub returns-in_err-answer-clause-marks : goal.returns-in_err-answer-clause-marks
returns-in_err-answer-clause-marks g c = subst (λ z. KeepsMarks z c.solve_apart.new.store.store) c.loop.invariant.unchanged c.solve_apart.ensures.marks

pub returns-in-Some-clause-found : goal.returns-in-Some-clause-found
returns-in-Some-clause-found g c = λ e.
    let h = c.loop.invariant in
    let found = rw c.in-Some.is at c.in_ok-answer.ensures.found in
    found-moved (g.M.Demand.common c.args.more.now) (g.M.Demand.common c.loop.more) c.args.logic (g.M.Demand.holds_for c.args.more.now) (g.M.Demand.holds_for c.loop.more) c.solve_apart.new.store.store (the_system c.args.system.now) h.same_common h.same (found e)

pub returns-in-Some-clause-back : goal.returns-in-Some-clause-back
returns-in-Some-clause-back g c = λ e.
    let back = rw c.in-Some.is at c.in_ok-answer.ensures.back in
    back-moved c.args.logic (g.M.Demand.problem c.args.more.now) (g.M.Demand.problem c.loop.more) (the_system c.args.system.now) c.args.store.now.store c.loop.store.store c.solve_apart.new.store.store c.loop.invariant.same_problem c.loop.invariant.unchanged (back e)

pub returns-in-Some-clause-none : goal.returns-in-Some-clause-none
returns-in-Some-clause-none g c = λ e.
    let none = rw c.in-Some.is at c.in_ok-answer.ensures.none in
    bounded-moved c.args.logic (g.M.Demand.holds_for c.args.more.now) (g.M.Demand.holds_for c.loop.more) c.args.store.now.store c.loop.store.store (the_system c.args.system.now) c.loop.invariant.same c.loop.invariant.unchanged (none e)

pub returns-in-Some-clause-decided : goal.returns-in-Some-clause-decided
returns-in-Some-clause-decided g c = rw c.in-Some.is at c.in_ok-answer.ensures.decided

pub returns-in-Some-clause-unchanged : goal.returns-in-Some-clause-unchanged
returns-in-Some-clause-unchanged g c = λ other.
    let unchanged = rw c.in-Some.is at c.in_ok-answer.ensures.unchanged in
    unchanged other ∙ c.loop.invariant.unchanged

pub returns-in-Some-clause-marks : goal.returns-in-Some-clause-marks
returns-in-Some-clause-marks g c = subst (λ z. KeepsMarks z c.solve_apart.new.store.store) c.loop.invariant.unchanged c.solve_apart.ensures.marks

pub returns-then-not-goes_on-clause-unchanged : goal.returns-then-not-goes_on-clause-unchanged
returns-then-not-goes_on-clause-unchanged g c =
    let unchanged = rw c.in_default.is at c.in_ok-answer.ensures.unchanged in
    unchanged ∙ c.loop.invariant.unchanged

pub returns-then-not-goes_on-clause-marks : goal.returns-then-not-goes_on-clause-marks
returns-then-not-goes_on-clause-marks g c = subst (λ z. KeepsMarks z c.solve_apart.new.store.store) c.loop.invariant.unchanged c.solve_apart.ensures.marks

pub loop-preserved : goal.loop-preserved
loop-preserved g c =
    let h = c.loop.invariant in
    let unchanged = rw c.in_default.is at c.in_ok-answer.ensures.unchanged in
    let a = h.room in
    let b = c.solve_apart.ensures.room in
    record {
      unchanged = unchanged ∙ h.unchanged;
      same = c.solve_apart.ensures.same ∙ h.same;
      same_common = c.solve_apart.ensures.same_common ∙ h.same_common;
      same_problem = c.solve_apart.ensures.same_problem ∙ h.same_problem;
      room = (omega (arith, a, b), omega (arith, a, b));
    }

pub returns-clause-marks : goal.returns-clause-marks
returns-clause-marks g c = subst (KeepsMarks c.args.store.now.store) (sym c.loop.invariant.unchanged) (KeepsMarks-same c.args.store.now.store)
