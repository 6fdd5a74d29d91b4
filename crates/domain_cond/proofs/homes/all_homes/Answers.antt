use Rattle.std.proofs.Common.{◌≡◌, ◌∙◌, Some, ap, arith, refl, slice_get, subst, sym, []}
use Rattle.store_theory.specs.Bindings.{nothing_more}
use Rattle.store_theory.specs.Systems.{AllAllowed, MeetsDemand}
use Rattle.store_theory.proofs.PatternLaws.{AddsBuilt-both}
use Rattle.term_store.specs.ClauseView.{the_gamma}
use Rattle.term_store.specs.SystemView.{the_system}
use Rattle.domain_cond.specs.Conditions.{AddsHomes}
use Rattle.domain_cond.proofs.HomeListLaws.{gamma-more, none-added, term-added}
use Rattle.domain_cond.proofs.homes.all_homes.Goals as goal

pub loop-i-init : goal.loop-i-init
loop-i-init c = record { added = subst (AddsHomes (MeetsDemand (AllAllowed c.args.problem.now) (the_system c.args.system.now)) c.args.store.now.store c.args.store.now.store []) (sym c.new-homes.ensures) (none-added (MeetsDemand (AllAllowed c.args.problem.now) (the_system c.args.system.now)) c.args.store.now.store []); adds = nothing_more; room = (omega arith, omega arith) }

pub add_term-requires-clause-gamma : goal.add_term-requires-clause-gamma
add_term-requires-clause-gamma c =
    let at : slice_get (the_system c.args.system.now).gammas c.loop-i.i ≡ Some (the_gamma c.gamma_at-gamma.result.now) = ap (λ xs. slice_get xs c.loop-i.i) (sym c.items-gammas.ensures) ∙ c.gamma_at-gamma.ensures in
    gamma-more c.args.store.now.store c.loop-i.store.store (the_system c.args.system.now) c.loop-i.i (the_gamma c.gamma_at-gamma.result.now) c.requires.fits at c.loop-i.invariant.adds

pub loop-i-preserved : goal.loop-i-preserved
loop-i-preserved c =
    let at : slice_get (the_system c.args.system.now).gammas c.loop-i.i ≡ Some (the_gamma c.gamma_at-gamma.result.now) = ap (λ xs. slice_get xs c.loop-i.i) (sym c.items-gammas.ensures) ∙ c.gamma_at-gamma.ensures in
    let a = c.loop-i.invariant.room in
    let b = c.add_term.ensures.room in
    record {
      added = term-added c.args.problem.now c.args.store.now.store c.loop-i.store.store c.add_term.new.store.store (the_system c.args.system.now) c.loop-i.i (the_gamma c.gamma_at-gamma.result.now) [] c.loop-i.homes c.add_term.new.homes at c.add_term.ensures.adds c.loop-i.invariant.added c.in_ok-add_term.ensures.added;
      adds = AddsBuilt-both c.args.store.now.store c.loop-i.store.store c.add_term.new.store.store c.loop-i.invariant.adds c.add_term.ensures.adds;
      room = (omega (arith, a, b), omega (arith, a, b));
    }

pub returns-in_err-add_term-clause-adds : goal.returns-in_err-add_term-clause-adds
returns-in_err-add_term-clause-adds c = AddsBuilt-both c.args.store.now.store c.loop-i.store.store c.add_term.new.store.store c.loop-i.invariant.adds c.add_term.ensures.adds

pub returns-clause-labels : goal.returns-clause-labels
returns-clause-labels c = c.loop-i.invariant.added.labels refl

pub returns-clause-forced : goal.returns-clause-forced
returns-clause-forced c = λ σ t m. c.loop-i.invariant.added.forced σ t m tt
