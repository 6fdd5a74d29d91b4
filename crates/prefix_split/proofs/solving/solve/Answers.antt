use Rattle.std.proofs.Common.{◌≡◌, ◌∙◌, ◌+◌, ℕ, List, IsTrue, ap, arith, length, map, refl, subst, sym}
use Rattle.std.proofs.lemmas.List.{length-map}
use Rattle.store_theory.specs.Bindings.{KeepsMarks}
use Rattle.calculus.specs.declared.setting.Logic.{Logic}
use Rattle.calculus.specs.Instances.{GammaUse}
use Rattle.calculus.specs.Space.{has_labels}
use Rattle.store_theory.specs.Stores.{Store}
use Rattle.store_theory.specs.Systems.{AreTried, NamesItsStrings, System, is_system}
use Rattle.store_theory.proofs.BindingLaws.{KeepsMarks-same}
use Rattle.term_store.specs.Asking.{Asks}
use Rattle.term_store.specs.RefView.{the_place}
use Rattle.term_store.specs.declared.cell.Ref.{Ref}
use Rattle.term_unify.proofs.PairLaws.{OnErr-always}
use Rattle.term_store.specs.SystemView.{the_system}
use Rattle.prefix_split.specs.LengthLists.{IsFirst}
use Rattle.prefix_split.specs.LengthSearch.{IsCounted, IsRangeOf, StandsAt}
use Rattle.prefix_split.proofs.LengthListLaws.{tried-within}
use Rattle.prefix_split.proofs.SearchLaws.{back-moved, counted-nothing, found-moved, none-moved, stands-counted, stands-first, stands-next, stands-none, stands-steps, tried-in}
use Rattle.prefix_split.proofs.solving.solve.Goals as goal

strings-count : (rs : List Ref) (ns : List ℕ) → map the_place rs ≡ ns → length rs ≡ length ns
strings-count rs ns e = sym (length-map rs the_place) ∙ ap length e

first : (l : Logic) (Demanded : List GammaUse → Type 0) (s : Store) (y : System) (rs : List Ref) (x p : ℕ) (ns : List ℕ) (begun : ℕ) → IsTrue (has_labels l) → IsRangeOf l y x p → map the_place rs ≡ y.strings → IsFirst x p (length rs) ns → StandsAt l Demanded s y ns begun (begun + 1)
first l Demanded s y rs x p ns begun k r e h = stands-first l Demanded s y x p ns begun k r (subst (λ n. IsFirst x p n ns) (strings-count rs y.strings e) h)

-- ---- before the first list

pub returns-in_err-range-clause-counted : goal.returns-in_err-range-clause-counted
returns-in_err-range-clause-counted g c = counted-nothing c.args.logic (Asks (g.M.Demand.holds_for c.args.more.now)) c.args.store.now.store (the_system c.args.system.now) c.args.ledger.now.used

pub returns-in_err-range-clause-marks : goal.returns-in_err-range-clause-marks
returns-in_err-range-clause-marks g c = KeepsMarks-same c.args.store.now.store

pub returns-in_err-lengths-clause-counted : goal.returns-in_err-lengths-clause-counted
returns-in_err-lengths-clause-counted g c = counted-nothing c.args.logic (Asks (g.M.Demand.holds_for c.args.more.now)) c.args.store.now.store (the_system c.args.system.now) c.args.ledger.now.used

pub returns-in_err-lengths-clause-marks : goal.returns-in_err-lengths-clause-marks
returns-in_err-lengths-clause-marks g c = KeepsMarks-same c.args.store.now.store

pub returns-then-not-take_step-clause-more_early : goal.returns-then-not-take_step-clause-more_early
returns-then-not-take_step-clause-more_early g c = λ e.
    let l = c.args.logic in
    let f = Asks (g.M.Demand.holds_for c.args.more.now) in
    let s = c.args.store.now.store in
    let y = the_system c.args.system.now in
    let ns = c.in_ok-lengths.lengths.items in
    let begun = c.args.ledger.now.used in
    stands-steps l f s y ns begun begun c.take_step.new.ledger.budget
    (first l f s y c.items.result.now c.in_ok-range.range.least c.in_ok-range.range.spread ns begun c.requires.labels c.in_ok-range.ensures.range c.items.ensures c.in_ok-lengths.ensures) (c.take_step.ensures.full c.if-not-take_step.true)

pub returns-then-not-take_step-clause-counted : goal.returns-then-not-take_step-clause-counted
returns-then-not-take_step-clause-counted g c =
    let l = c.args.logic in
    let f = Asks (g.M.Demand.holds_for c.args.more.now) in
    let s = c.args.store.now.store in
    let y = the_system c.args.system.now in
    subst (λ n. IsCounted l f s y c.args.ledger.now.used n) (sym (c.take_step.ensures.same c.if-not-take_step.true)) (counted-nothing l f s y c.args.ledger.now.used)

pub returns-then-not-take_step-clause-marks : goal.returns-then-not-take_step-clause-marks
returns-then-not-take_step-clause-marks g c = KeepsMarks-same c.args.store.now.store

-- ---- by the order

pub returns-in_err-answer-clause-counted : goal.returns-in_err-answer-clause-counted
returns-in_err-answer-clause-counted g c =
    let l = c.args.logic in
    let f = Asks (g.M.Demand.holds_for c.args.more.now) in
    let s = c.args.store.now.store in
    let y = the_system c.args.system.now in
    let ns = c.in_ok-lengths.lengths.items in
    let begun = c.args.ledger.now.used in
    let taken = c.take_step.ensures.taken c.if-not-take_step.false in
    stands-counted l f s y ns begun (begun + 1) c.take_step.new.ledger.used
    (first l f s y c.items.result.now c.in_ok-range.range.least c.in_ok-range.range.spread ns begun c.requires.labels c.in_ok-range.ensures.range c.items.ensures c.in_ok-lengths.ensures) (omega (arith, taken)) (omega (arith, taken))

pub returns-in_err-answer-clause-err : goal.returns-in_err-answer-clause-err
returns-in_err-answer-clause-err g c = OnErr-always c.from_residual-in_err-answer.result (c.solve_by_order.new.store.store ≡ c.args.store.now.store) c.in_err-answer.ensures.err

pub returns-in-Some-clause-found : goal.returns-in-Some-clause-found
returns-in-Some-clause-found g c = rw c.in-Some.is at c.in_ok-answer.ensures.found

pub returns-in-Some-clause-back : goal.returns-in-Some-clause-back
returns-in-Some-clause-back g c = rw c.in-Some.is at c.in_ok-answer.ensures.back

pub returns-in-Some-clause-none : goal.returns-in-Some-clause-none
returns-in-Some-clause-none g c = rw c.in-Some.is at c.in_ok-answer.ensures.none

pub returns-in-Some-clause-steps : goal.returns-in-Some-clause-steps
returns-in-Some-clause-steps g c = λ e. absurd ((rw c.in-Some.is at c.in_ok-answer.ensures.decided) e)

pub returns-in-Some-clause-more_early : goal.returns-in-Some-clause-more_early
returns-in-Some-clause-more_early g c = λ e. absurd ((rw c.in-Some.is at c.in_ok-answer.ensures.decided) e)

pub returns-in-Some-clause-counted : goal.returns-in-Some-clause-counted
returns-in-Some-clause-counted g c =
    let l = c.args.logic in
    let f = Asks (g.M.Demand.holds_for c.args.more.now) in
    let s = c.args.store.now.store in
    let y = the_system c.args.system.now in
    let ns = c.in_ok-lengths.lengths.items in
    let begun = c.args.ledger.now.used in
    let taken = c.take_step.ensures.taken c.if-not-take_step.false in
    stands-counted l f s y ns begun (begun + 1) c.take_step.new.ledger.used
    (first l f s y c.items.result.now c.in_ok-range.range.least c.in_ok-range.range.spread ns begun c.requires.labels c.in_ok-range.ensures.range c.items.ensures c.in_ok-lengths.ensures) (omega (arith, taken)) (omega (arith, taken))

pub returns-in-Some-clause-unchanged : goal.returns-in-Some-clause-unchanged
returns-in-Some-clause-unchanged g c = rw c.in-Some.is at c.in_ok-answer.ensures.unchanged

-- ---- the first list

pub loop-unifier-init : goal.loop-unifier-init
loop-unifier-init g c =
    let l = c.args.logic in
    let f = Asks (g.M.Demand.holds_for c.args.more.now) in
    let s = c.args.store.now.store in
    let y = the_system c.args.system.now in
    let ns = c.in_ok-lengths.lengths.items in
    let begun = c.args.ledger.now.used in
    record {
      stands = subst (StandsAt l f s y ns begun) (sym (c.take_step.ensures.taken c.if-not-take_step.false)) (first l f s y c.items.result.now c.in_ok-range.range.least c.in_ok-range.range.spread ns begun c.requires.labels c.in_ok-range.ensures.range c.items.ensures c.in_ok-lengths.ensures);
      unchanged = rw c.in_default.is at c.in_ok-answer.ensures.unchanged;
      same = c.solve_by_order.ensures.same;
      same_common = c.solve_by_order.ensures.same_common;
      same_problem = c.solve_by_order.ensures.same_problem;
      budget = c.take_step.ensures.budget;
      room = c.solve_by_order.ensures.room;
    }

-- ---- one list

pub try_or_undo-requires-clause-fits : goal.try_or_undo-requires-clause-fits
try_or_undo-requires-clause-fits g c = subst (λ z. IsTrue (is_system z (the_system c.args.system.now))) (sym c.loop-unifier.invariant.unchanged) c.requires.fits

pub try_or_undo-requires-clause-named : goal.try_or_undo-requires-clause-named
try_or_undo-requires-clause-named g c = subst (λ z. NamesItsStrings z (the_system c.args.system.now)) (sym c.loop-unifier.invariant.unchanged) c.requires.named

pub try_or_undo-requires-clause-count : goal.try_or_undo-requires-clause-count
try_or_undo-requires-clause-count g c = ap length c.deref.ensures.value ∙ (tried-within c.args.logic (the_system c.args.system.now) c.loop-unifier.lengths.items c.loop-unifier.invariant.stands.tried).1

pub returns-in_err-found-clause-counted : goal.returns-in_err-found-clause-counted
returns-in_err-found-clause-counted g c = stands-counted c.args.logic (Asks (g.M.Demand.holds_for c.args.more.now)) c.args.store.now.store (the_system c.args.system.now) c.loop-unifier.lengths.items c.args.ledger.now.used c.loop-unifier.ledger.used c.loop-unifier.ledger.used c.loop-unifier.invariant.stands (omega arith) (omega arith)

pub returns-in_err-found-clause-err : goal.returns-in_err-found-clause-err
returns-in_err-found-clause-err g c = OnErr-always c.from_residual-in_err-found.result (c.try_or_undo.new.store.store ≡ c.args.store.now.store) (c.in_err-found.ensures.err ∙ c.loop-unifier.invariant.unchanged)

pub returns-in_err-found-clause-marks : goal.returns-in_err-found-clause-marks
returns-in_err-found-clause-marks g c = subst (λ z. KeepsMarks z c.try_or_undo.new.store.store) c.loop-unifier.invariant.unchanged c.try_or_undo.ensures.marks

pub returns-then-found-clause-found : goal.returns-then-found-clause-found
returns-then-found-clause-found g c = λ e.
    let h = c.loop-unifier.invariant in
    found-moved (g.M.Demand.common c.args.more.now) (g.M.Demand.common c.loop-unifier.more) c.args.logic (g.M.Demand.holds_for c.args.more.now) (g.M.Demand.holds_for c.loop-unifier.more) c.try_or_undo.new.store.store (the_system c.args.system.now) h.same_common h.same
    (c.in_ok-found.ensures.found c.if-found.true (subst (AreTried c.args.logic (the_system c.args.system.now)) (sym c.deref.ensures.value) h.stands.tried))

pub returns-then-found-clause-back : goal.returns-then-found-clause-back
returns-then-found-clause-back g c = λ e. back-moved c.args.logic (g.M.Demand.problem c.args.more.now) (g.M.Demand.problem c.loop-unifier.more) (the_system c.args.system.now) c.args.store.now.store c.loop-unifier.store.store c.try_or_undo.new.store.store c.loop-unifier.invariant.same_problem c.loop-unifier.invariant.unchanged (c.in_ok-found.ensures.back c.if-found.true (subst (AreTried c.args.logic (the_system c.args.system.now)) (sym c.deref.ensures.value) c.loop-unifier.invariant.stands.tried))

pub returns-then-found-clause-counted : goal.returns-then-found-clause-counted
returns-then-found-clause-counted g c = stands-counted c.args.logic (Asks (g.M.Demand.holds_for c.args.more.now)) c.args.store.now.store (the_system c.args.system.now) c.loop-unifier.lengths.items c.args.ledger.now.used c.loop-unifier.ledger.used c.loop-unifier.ledger.used c.loop-unifier.invariant.stands (omega arith) (omega arith)

pub returns-then-found-clause-unchanged : goal.returns-then-found-clause-unchanged
returns-then-found-clause-unchanged g c = λ other. absurd (other refl)

pub returns-then-found-clause-marks : goal.returns-then-found-clause-marks
returns-then-found-clause-marks g c = subst (λ z. KeepsMarks z c.try_or_undo.new.store.store) c.loop-unifier.invariant.unchanged c.try_or_undo.ensures.marks

-- ---- the next one

pub next_lengths-requires-clause-few : goal.next_lengths-requires-clause-few
next_lengths-requires-clause-few g c =
    let n = (tried-within c.args.logic (the_system c.args.system.now) c.loop-unifier.lengths.items c.loop-unifier.invariant.stands.tried).1 in
    let few = c.in_ok-range.ensures.few in
    omega (arith, n, few)

pub next_lengths-requires-clause-within : goal.next_lengths-requires-clause-within
next_lengths-requires-clause-within g c = tried-in c.args.logic (the_system c.args.system.now) c.in_ok-range.range.least c.in_ok-range.range.spread c.loop-unifier.lengths.items c.in_ok-range.ensures.range c.loop-unifier.invariant.stands.tried

pub returns-in_err-next_lengths-clause-counted : goal.returns-in_err-next_lengths-clause-counted
returns-in_err-next_lengths-clause-counted g c = stands-counted c.args.logic (Asks (g.M.Demand.holds_for c.args.more.now)) c.args.store.now.store (the_system c.args.system.now) c.loop-unifier.lengths.items c.args.ledger.now.used c.loop-unifier.ledger.used c.loop-unifier.ledger.used c.loop-unifier.invariant.stands (omega arith) (omega arith)

pub returns-in_err-next_lengths-clause-err : goal.returns-in_err-next_lengths-clause-err
returns-in_err-next_lengths-clause-err g c = OnErr-always c.from_residual-in_err-next_lengths.result (c.try_or_undo.new.store.store ≡ c.args.store.now.store) ((c.in_ok-found.ensures.unchanged c.if-found.false ∙ c.loop-unifier.invariant.unchanged))

pub returns-in_err-next_lengths-clause-marks : goal.returns-in_err-next_lengths-clause-marks
returns-in_err-next_lengths-clause-marks g c = subst (λ z. KeepsMarks z c.try_or_undo.new.store.store) c.loop-unifier.invariant.unchanged c.try_or_undo.ensures.marks

pub returns-then-not-branch-clause-none : goal.returns-then-not-branch-clause-none
returns-then-not-branch-clause-none g c = λ e.
    stands-none c.args.logic (Asks (g.M.Demand.holds_for c.args.more.now)) c.args.store.now.store (the_system c.args.system.now) c.in_ok-range.range.least c.in_ok-range.range.spread c.loop-unifier.lengths.items c.args.ledger.now.used c.loop-unifier.ledger.used c.in_ok-range.ensures.range c.loop-unifier.invariant.stands (none-moved c.args.logic (g.M.Demand.holds_for c.args.more.now) (g.M.Demand.holds_for c.loop-unifier.more) c.args.store.now.store c.loop-unifier.store.store (the_system c.args.system.now) c.loop-unifier.lengths.items c.deref.result.now c.loop-unifier.invariant.same c.loop-unifier.invariant.unchanged c.deref.ensures.value (c.in_ok-found.ensures.none c.if-found.false)) (c.in_ok-next_lengths.ensures.last c.if-not-branch.true)

pub returns-then-not-branch-clause-counted : goal.returns-then-not-branch-clause-counted
returns-then-not-branch-clause-counted g c = stands-counted c.args.logic (Asks (g.M.Demand.holds_for c.args.more.now)) c.args.store.now.store (the_system c.args.system.now) c.loop-unifier.lengths.items c.args.ledger.now.used c.loop-unifier.ledger.used c.loop-unifier.ledger.used c.loop-unifier.invariant.stands (omega arith) (omega arith)

pub returns-then-not-branch-clause-unchanged : goal.returns-then-not-branch-clause-unchanged
returns-then-not-branch-clause-unchanged g c = λ other. (c.in_ok-found.ensures.unchanged c.if-found.false ∙ c.loop-unifier.invariant.unchanged)

pub returns-then-not-branch-clause-marks : goal.returns-then-not-branch-clause-marks
returns-then-not-branch-clause-marks g c = subst (λ z. KeepsMarks z c.try_or_undo.new.store.store) c.loop-unifier.invariant.unchanged c.try_or_undo.ensures.marks

-- ---- its step

pub returns-then-not-take_step-2-clause-steps : goal.returns-then-not-take_step-2-clause-steps
returns-then-not-take_step-2-clause-steps g c = λ e. c.take_step-in-loop-unifier.ensures.same c.if-not-take_step-2.true ∙ c.take_step-in-loop-unifier.ensures.full c.if-not-take_step-2.true

pub returns-then-not-take_step-2-clause-more_early : goal.returns-then-not-take_step-2-clause-more_early
returns-then-not-take_step-2-clause-more_early g c = λ e.
    stands-steps c.args.logic (Asks (g.M.Demand.holds_for c.args.more.now)) c.args.store.now.store (the_system c.args.system.now) c.next_lengths.new.lengths.items c.args.ledger.now.used c.loop-unifier.ledger.used c.take_step-in-loop-unifier.new.ledger.budget (stands-next c.args.logic (Asks (g.M.Demand.holds_for c.args.more.now)) c.args.store.now.store (the_system c.args.system.now) c.in_ok-range.range.least c.in_ok-range.range.spread c.loop-unifier.lengths.items c.next_lengths.new.lengths.items c.args.ledger.now.used c.loop-unifier.ledger.used c.requires.labels c.in_ok-range.ensures.range c.loop-unifier.invariant.stands (none-moved c.args.logic (g.M.Demand.holds_for c.args.more.now) (g.M.Demand.holds_for c.loop-unifier.more) c.args.store.now.store c.loop-unifier.store.store (the_system c.args.system.now) c.loop-unifier.lengths.items c.deref.result.now c.loop-unifier.invariant.same c.loop-unifier.invariant.unchanged c.deref.ensures.value (c.in_ok-found.ensures.none c.if-found.false)) (c.in_ok-next_lengths.ensures.next c.if-not-branch.false)) (c.take_step-in-loop-unifier.ensures.full c.if-not-take_step-2.true)

pub returns-then-not-take_step-2-clause-counted : goal.returns-then-not-take_step-2-clause-counted
returns-then-not-take_step-2-clause-counted g c =
    let same = c.take_step-in-loop-unifier.ensures.same c.if-not-take_step-2.true in
    stands-counted c.args.logic (Asks (g.M.Demand.holds_for c.args.more.now)) c.args.store.now.store (the_system c.args.system.now) c.loop-unifier.lengths.items c.args.ledger.now.used c.loop-unifier.ledger.used c.take_step-in-loop-unifier.new.ledger.used c.loop-unifier.invariant.stands (omega (arith, same)) (omega (arith, same))

pub returns-then-not-take_step-2-clause-unchanged : goal.returns-then-not-take_step-2-clause-unchanged
returns-then-not-take_step-2-clause-unchanged g c = λ other. (c.in_ok-found.ensures.unchanged c.if-found.false ∙ c.loop-unifier.invariant.unchanged)

pub returns-then-not-take_step-2-clause-marks : goal.returns-then-not-take_step-2-clause-marks
returns-then-not-take_step-2-clause-marks g c = subst (λ z. KeepsMarks z c.try_or_undo.new.store.store) c.loop-unifier.invariant.unchanged c.try_or_undo.ensures.marks

pub loop-unifier-smaller : goal.loop-unifier-smaller
loop-unifier-smaller g c =
    let taken = c.take_step-in-loop-unifier.ensures.taken c.if-not-take_step-2.false in
    let same = c.take_step-in-loop-unifier.ensures.budget in
    let within = c.take_step-in-loop-unifier.new.ledger.in_budget in
    omega (arith, taken, same, within)

pub loop-unifier-preserved : goal.loop-unifier-preserved
loop-unifier-preserved g c =
    let h = c.loop-unifier.invariant in
    let a = h.room in
    let b = c.try_or_undo.ensures.room in
    record {
      stands = subst (StandsAt c.args.logic (Asks (g.M.Demand.holds_for c.args.more.now)) c.args.store.now.store (the_system c.args.system.now) c.next_lengths.new.lengths.items c.args.ledger.now.used) (sym (c.take_step-in-loop-unifier.ensures.taken c.if-not-take_step-2.false)) (stands-next c.args.logic (Asks (g.M.Demand.holds_for c.args.more.now)) c.args.store.now.store (the_system c.args.system.now) c.in_ok-range.range.least c.in_ok-range.range.spread c.loop-unifier.lengths.items c.next_lengths.new.lengths.items c.args.ledger.now.used c.loop-unifier.ledger.used c.requires.labels c.in_ok-range.ensures.range c.loop-unifier.invariant.stands (none-moved c.args.logic (g.M.Demand.holds_for c.args.more.now) (g.M.Demand.holds_for c.loop-unifier.more) c.args.store.now.store c.loop-unifier.store.store (the_system c.args.system.now) c.loop-unifier.lengths.items c.deref.result.now c.loop-unifier.invariant.same c.loop-unifier.invariant.unchanged c.deref.ensures.value (c.in_ok-found.ensures.none c.if-found.false)) (c.in_ok-next_lengths.ensures.next c.if-not-branch.false));
      unchanged = (c.in_ok-found.ensures.unchanged c.if-found.false ∙ c.loop-unifier.invariant.unchanged);
      same = c.try_or_undo.ensures.same ∙ h.same;
      same_common = c.try_or_undo.ensures.same_common ∙ h.same_common;
      same_problem = c.try_or_undo.ensures.same_problem ∙ h.same_problem;
      budget = c.take_step-in-loop-unifier.ensures.budget ∙ h.budget;
      room = (omega (arith, a, b), omega (arith, a, b));
    }
