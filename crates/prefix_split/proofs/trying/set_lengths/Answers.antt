use Rattle.std.proofs.Common.{◌≡◌, ◌∙◌, IsTrue, ap, length, map, subst, sym}
use Rattle.std.specs.Prelude.{slice_get}
use Rattle.std.specs.List.{AllByRecursion, flat_map, list_all}
use Rattle.std.proofs.lemmas.Bool.{false≢true}
use Rattle.std.proofs.lemmas.List.{length-map}
use Rattle.calculus.specs.declared.sort.Sort.TheVariants.{StringSort}
use Rattle.store_theory.specs.Stores.{Solution, Solves, has_sort_at}
use Rattle.store_theory.specs.Systems.{AreEqual, HasBuiltStrings, HaveLengths, cells_of, is_equation}
use Rattle.search_theory.specs.Solving.{CannotHave, IsNarrowed}
use Rattle.search_theory.proofs.SolvingLaws.{system-parts}
use Rattle.term_store.specs.RefView.{the_place}
use Rattle.term_store.specs.SystemView.{the_system}
use Rattle.prefix_split.specs.Equated.{equation_cells}
use Rattle.prefix_split.specs.Later.{IsBuiltString, KeepsRight}
use Rattle.prefix_split.proofs.LaterLaws.{later-both}
use Rattle.prefix_split.proofs.LengthLaws.{right-both, right-more}
use Rattle.prefix_split.proofs.MeetingLaws.{built-later, equation-free, open-later, system-later}
use Rattle.prefix_split.proofs.TryingLaws.{cannot-equal, open-given, right-system, set-both}
use Rattle.prefix_split.proofs.trying.set_lengths.Goals as goal

pub make_all_equal-requires-clause-fits : goal.make_all_equal-requires-clause-fits
make_all_equal-requires-clause-fits c = subst (λ xs. IsTrue (list_all (is_equation c.give_lengths.new.store.store) xs)) (sym c.items-2.ensures) (system-parts c.give_lengths.new.store.store (the_system c.args.system.now) (system-later c.args.store.now.store c.give_lengths.new.store.store (the_system c.args.system.now) c.give_lengths.ensures.later c.requires.fits)).equations

pub make_all_equal-requires-clause-free : goal.make_all_equal-requires-clause-free
make_all_equal-requires-clause-free c =
    let s = c.args.store.now.store in
    let t = c.give_lengths.new.store.store in
    let y = the_system c.args.system.now in
    let built : HasBuiltStrings t y = λ i r e. c.in_ok-give_lengths.ensures.built c.if-not-branch.false i r (ap (λ xs. slice_get xs i) c.items.ensures ∙ e) in
    λ i e at. equation-free t y (open-given s t y c.requires.fits c.requires.named c.give_lengths.ensures.later built) i e (ap (λ xs. slice_get xs i) (sym c.items-2.ensures) ∙ at)

pub returns-in_err-made-clause-later : goal.returns-in_err-made-clause-later
returns-in_err-made-clause-later c = later-both c.args.store.now.store c.give_lengths.new.store.store c.make_all_equal.new.store.store c.give_lengths.ensures.later c.make_all_equal.ensures.later

pub returns-clause-set : goal.returns-clause-set
returns-clause-set c = λ e.
    let s = c.args.store.now.store in
    let t = c.give_lengths.new.store.store in
    let u = c.make_all_equal.new.store.store in
    let y = the_system c.args.system.now in
    set-both s t u y c.args.lengths.now c.requires.fits
    (subst (λ xs. IsNarrowed s t (λ σ. HaveLengths σ xs c.args.lengths.now)) c.items.ensures (c.in_ok-give_lengths.ensures.given c.if-not-branch.false))
    (subst (λ es. IsNarrowed t u (λ σ. AllByRecursion (AreEqual σ) es)) c.items-2.ensures (c.in_ok-made.ensures.made e))

pub returns-clause-free : goal.returns-clause-free
returns-clause-free c = λ e.
    let s = c.args.store.now.store in
    let t = c.give_lengths.new.store.store in
    let y = the_system c.args.system.now in
    let built : HasBuiltStrings t y = λ i r q. c.in_ok-give_lengths.ensures.built c.if-not-branch.false i r (ap (λ xs. slice_get xs i) c.items.ensures ∙ q) in
    open-later t c.make_all_equal.new.store.store y c.make_all_equal.ensures.later (system-later s t y c.give_lengths.ensures.later c.requires.fits) (open-given s t y c.requires.fits c.requires.named c.give_lengths.ensures.later built)

pub returns-clause-cannot : goal.returns-clause-cannot
returns-clause-cannot c = λ e.
    let s = c.args.store.now.store in
    let t = c.give_lengths.new.store.store in
    let y = the_system c.args.system.now in
    cannot-equal s t y c.args.lengths.now c.requires.fits
    (subst (λ xs. IsNarrowed s t (λ σ. HaveLengths σ xs c.args.lengths.now)) c.items.ensures (c.in_ok-give_lengths.ensures.given c.if-not-branch.false))
    (subst (λ es. (σ : Solution) → Solves t σ → ¬ AllByRecursion (AreEqual σ) es) c.items-2.ensures (c.in_ok-made.ensures.never e))

pub returns-clause-later : goal.returns-clause-later
returns-clause-later c = later-both c.args.store.now.store c.give_lengths.new.store.store c.make_all_equal.new.store.store c.give_lengths.ensures.later c.make_all_equal.ensures.later

pub returns-then-not-branch-clause-right : goal.returns-then-not-branch-clause-right
returns-then-not-branch-clause-right c = λ e. absurd (false≢true e)

pub returns-clause-right : goal.returns-clause-right
returns-clause-right c = λ e P steps.
    let s = c.args.store.now.store in
    let t = c.give_lengths.new.store.store in
    let u = c.make_all_equal.new.store.store in
    let y = the_system c.args.system.now in
    right-both P (cells_of y) s t u c.give_lengths.ensures.later.longer (right-more P (cells_of y) s t (c.in_ok-give_lengths.ensures.right c.if-not-branch.false P steps))
    (right-system P y t u (subst (λ es. KeepsRight P (flat_map equation_cells es) t u) c.items-2.ensures (c.in_ok-made.ensures.right e P)))
