use Rattle.std.proofs.Common.{◌≡◌, ◌∙◌, IsTrue, Some, ap, arith, map, slice_get, subst, sym}
use Rattle.store_theory.specs.Bindings.{nothing_more}
use Rattle.store_theory.specs.Systems.{is_label}
use Rattle.store_theory.proofs.PatternLaws.{AddsBuilt-both}
use Rattle.search_theory.specs.HomesTold.{HomesAllow}
use Rattle.term_store.specs.ClauseView.{the_gamma}
use Rattle.term_store.specs.RefView.{the_place}
use Rattle.domain_cond.specs.Conditions.{AddsHomes, HomeAllows}
use Rattle.domain_cond.proofs.ConditionLaws.{gamma-parts, label-more}
use Rattle.domain_cond.proofs.HomeListLaws.{leaf-added, leaf-end-more, none-added}
use Rattle.domain_cond.proofs.homes.add_term.Goals as goal

pub leaves-requires : goal.leaves-requires
leaves-requires c = (gamma-parts c.args.store.now.store (the_gamma c.args.gamma.now) c.requires.gamma).0

pub returns-in_err-leaves-clause-adds : goal.returns-in_err-leaves-clause-adds
returns-in_err-leaves-clause-adds c = nothing_more

pub loop-i-init : goal.loop-i-init
loop-i-init c = record { added = none-added (λ σ. HomesAllow c.args.problem.now c.args.store.now.store σ (the_gamma c.args.gamma.now)) c.args.store.now.store c.args.homes.now; adds = nothing_more; room = (omega arith, omega arith) }

pub add_leaf-requires-clause-end : goal.add_leaf-requires-clause-end
add_leaf-requires-clause-end c =
    let at : slice_get (map the_place c.in_ok-leaves.leaves.items) c.loop-i.i ≡ Some c.leaf_at-leaf.result.0 = ap (λ xs. slice_get (map the_place xs) c.loop-i.i) (sym c.deref.ensures.value) ∙ c.leaf_at-leaf.ensures in
    leaf-end-more c.args.store.now.store c.loop-i.store.store c.args.gamma.now.term.0 (map the_place c.in_ok-leaves.leaves.items) c.loop-i.i c.leaf_at-leaf.result.0 c.in_ok-leaves.ensures at c.loop-i.invariant.adds

pub add_leaf-requires-clause-label : goal.add_leaf-requires-clause-label
add_leaf-requires-clause-label c = subst (λ xs. IsTrue (is_label c.loop-i.store.store xs)) (sym c.items-label.ensures) (label-more c.args.store.now.store c.loop-i.store.store c.args.gamma.now.label c.loop-i.invariant.adds (gamma-parts c.args.store.now.store (the_gamma c.args.gamma.now) c.requires.gamma).1)

pub loop-i-preserved : goal.loop-i-preserved
loop-i-preserved c =
    let at : slice_get (map the_place c.in_ok-leaves.leaves.items) c.loop-i.i ≡ Some c.leaf_at-leaf.result.0 = ap (λ xs. slice_get (map the_place xs) c.loop-i.i) (sym c.deref.ensures.value) ∙ c.leaf_at-leaf.ensures in
    let a = c.loop-i.invariant.room in
    let b = c.add_leaf.ensures.room in
    let k = subst (λ ls. AddsHomes (HomeAllows c.args.problem.now c.loop-i.store.store c.leaf_at-leaf.result.0 ls) c.loop-i.store.store c.add_leaf.new.store.store c.loop-i.homes c.add_leaf.new.homes) c.items-label.ensures c.in_ok-add_leaf.ensures.added in
    record {
      added = leaf-added c.args.problem.now c.args.store.now.store c.loop-i.store.store c.add_leaf.new.store.store (the_gamma c.args.gamma.now) (map the_place c.in_ok-leaves.leaves.items) c.loop-i.i c.leaf_at-leaf.result.0 c.args.homes.now c.loop-i.homes c.add_leaf.new.homes c.in_ok-leaves.ensures at c.loop-i.invariant.adds c.add_leaf.ensures.adds c.loop-i.invariant.added k;
      adds = AddsBuilt-both c.args.store.now.store c.loop-i.store.store c.add_leaf.new.store.store c.loop-i.invariant.adds c.add_leaf.ensures.adds;
      room = (omega (arith, a, b), omega (arith, a, b));
    }

pub returns-in_err-add_leaf-clause-adds : goal.returns-in_err-add_leaf-clause-adds
returns-in_err-add_leaf-clause-adds c = AddsBuilt-both c.args.store.now.store c.loop-i.store.store c.add_leaf.new.store.store c.loop-i.invariant.adds c.add_leaf.ensures.adds
