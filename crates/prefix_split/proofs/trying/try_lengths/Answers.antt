use Rattle.std.proofs.Common.{◌∙◌, IsTrue, ap, subst, sym}
use Rattle.std.specs.Prelude.{slice_get}
use Rattle.std.specs.List.{AllByRecursion, list_all}
use Rattle.store_theory.specs.Systems.{cells_of, is_pair}
use Rattle.search_theory.proofs.SolvingLaws.{system-parts}
use Rattle.term_store.specs.Asking.{Asks}
use Rattle.term_store.specs.SystemView.{the_system}
use Rattle.prefix_split.specs.Same.{DifferNow}
use Rattle.prefix_split.proofs.LaterLaws.{later-both}
use Rattle.prefix_split.proofs.LengthLaws.{right-solved}
use Rattle.prefix_split.proofs.MeetingLaws.{built-later, open-later, pair-free, system-later}
use Rattle.prefix_split.proofs.TryingLaws.{found-by, none-met, none-same, solved-back, steps-tried}
use Rattle.prefix_split.proofs.trying.try_lengths.Goals as goal

pub meet_demand-requires-clause-fits : goal.meet_demand-requires-clause-fits
meet_demand-requires-clause-fits g c = system-later c.args.store.now.store c.set_lengths.new.store.store (the_system c.args.system.now) c.set_lengths.ensures.later c.requires.fits

pub returns-in_err-meet_demand-clause-later : goal.returns-in_err-meet_demand-clause-later
returns-in_err-meet_demand-clause-later g c = later-both c.args.store.now.store c.set_lengths.new.store.store c.meet_demand.new.store.store c.set_lengths.ensures.later c.meet_demand.ensures.later

pub returns-then-not-branch-2-clause-none : goal.returns-then-not-branch-2-clause-none
returns-then-not-branch-2-clause-none g c = λ e. none-met c.args.logic (Asks (g.M.Demand.holds_for c.args.more.now)) c.args.store.now.store c.set_lengths.new.store.store (the_system c.args.system.now) c.args.lengths.now c.requires.fits (c.in_ok-set_lengths.ensures.set c.if-not-branch.false) (c.in_ok-meet_demand.ensures.never c.if-not-branch-2.true)

pub returns-then-not-branch-2-clause-later : goal.returns-then-not-branch-2-clause-later
returns-then-not-branch-2-clause-later g c = later-both c.args.store.now.store c.set_lengths.new.store.store c.meet_demand.new.store.store c.set_lengths.ensures.later c.meet_demand.ensures.later

pub same_pair-requires-clause-fits : goal.same_pair-requires-clause-fits
same_pair-requires-clause-fits g c =
    let t = c.set_lengths.new.store.store in
    let u = c.meet_demand.new.store.store in
    let y = the_system c.args.system.now in
    subst (λ ps. IsTrue (list_all (is_pair u) ps)) (sym c.items.ensures) (system-parts u y (system-later t u y c.meet_demand.ensures.later (system-later c.args.store.now.store t y c.set_lengths.ensures.later c.requires.fits))).pairs

pub same_pair-requires-clause-free : goal.same_pair-requires-clause-free
same_pair-requires-clause-free g c =
    let t = c.set_lengths.new.store.store in
    let u = c.meet_demand.new.store.store in
    let y = the_system c.args.system.now in
    let free = open-later t u y c.meet_demand.ensures.later (system-later c.args.store.now.store t y c.set_lengths.ensures.later c.requires.fits) (c.in_ok-set_lengths.ensures.free c.if-not-branch.false) in
    λ i p at. pair-free u y free i p (ap (λ xs. slice_get xs i) (sym c.items.ensures) ∙ at)

pub returns-in_err-same_pair-clause-later : goal.returns-in_err-same_pair-clause-later
returns-in_err-same_pair-clause-later g c = later-both c.args.store.now.store c.set_lengths.new.store.store c.meet_demand.new.store.store c.set_lengths.ensures.later c.meet_demand.ensures.later

pub returns-in-None-clause-found : goal.returns-in-None-clause-found
returns-in-None-clause-found g c = λ e tried.
    let u = c.meet_demand.new.store.store in
    found-by (g.M.Demand.common c.args.more.now) c.args.logic (Asks (g.M.Demand.holds_for c.args.more.now)) c.args.store.now.store c.set_lengths.new.store.store u (the_system c.args.system.now) c.args.lengths.now c.requires.fits
    (c.in_ok-set_lengths.ensures.set c.if-not-branch.false) (c.in_ok-meet_demand.ensures.forced c.if-not-branch-2.false) c.mark-met.ensures.well c.set_lengths.ensures.later c.meet_demand.ensures.later (c.in_ok-set_lengths.ensures.free c.if-not-branch.false)
    (subst (AllByRecursion (DifferNow u)) c.items.ensures (c.in_ok-same_pair.ensures.apart c.in-None.is)) (c.in_ok-meet_demand.ensures.met c.if-not-branch-2.false) tried

pub returns-in-None-clause-back : goal.returns-in-None-clause-back
returns-in-None-clause-back g c = λ e tried. record {
  back = λ σ h. solved-back (Asks (g.M.Demand.holds_for c.args.more.now)) c.args.store.now.store c.set_lengths.new.store.store c.meet_demand.new.store.store (the_system c.args.system.now) c.args.lengths.now (c.in_ok-set_lengths.ensures.set c.if-not-branch.false) (c.in_ok-meet_demand.ensures.forced c.if-not-branch-2.false) σ h;
  later = later-both c.args.store.now.store c.set_lengths.new.store.store c.meet_demand.new.store.store c.set_lengths.ensures.later c.meet_demand.ensures.later;
  built = built-later c.set_lengths.new.store.store c.meet_demand.new.store.store (the_system c.args.system.now) c.meet_demand.ensures.later (c.in_ok-set_lengths.ensures.built c.if-not-branch.false);
  right = λ logic. right-solved (g.M.Demand.problem c.args.more.now) (cells_of (the_system c.args.system.now)) c.args.store.now.store c.set_lengths.new.store.store c.meet_demand.new.store.store c.set_lengths.ensures.later.longer
      (c.in_ok-set_lengths.ensures.right c.if-not-branch.false (g.M.Demand.problem c.args.more.now) (steps-tried (g.M.Demand.problem c.args.more.now) c.args.logic (the_system c.args.system.now) c.args.lengths.now logic tried)) (c.in_ok-meet_demand.ensures.right c.if-not-branch-2.false);
}

pub returns-in-Some-clause-none : goal.returns-in-Some-clause-none
returns-in-Some-clause-none g c = λ e.
    let (p, at, same) = rw c.in-Some.is at c.in_ok-same_pair.ensures.same in
    none-same c.args.logic (Asks (g.M.Demand.holds_for c.args.more.now)) c.args.store.now.store c.set_lengths.new.store.store c.meet_demand.new.store.store (the_system c.args.system.now) c.args.lengths.now c.requires.fits (c.in_ok-set_lengths.ensures.set c.if-not-branch.false) (c.in_ok-meet_demand.ensures.forced c.if-not-branch-2.false)
    (c.in-Some.i, p, ap (λ xs. slice_get xs c.in-Some.i) (sym c.items.ensures) ∙ at, same)

pub returns-in-None-clause-later : goal.returns-in-None-clause-later
returns-in-None-clause-later g c = later-both c.args.store.now.store c.set_lengths.new.store.store c.meet_demand.new.store.store c.set_lengths.ensures.later c.meet_demand.ensures.later

pub returns-in-Some-clause-later : goal.returns-in-Some-clause-later
returns-in-Some-clause-later g c = later-both c.args.store.now.store c.set_lengths.new.store.store c.meet_demand.new.store.store c.set_lengths.ensures.later c.meet_demand.ensures.later
