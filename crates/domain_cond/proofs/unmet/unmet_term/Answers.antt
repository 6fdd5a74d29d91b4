use Rattle.std.proofs.Common.{rules, ◌≡◌, ◌∙◌, ◌∷◌, IfSome, IsTrue, None, Some, ap, arith, map, refl, slice_get, subst, sym}
use Rattle.std.proofs.lemmas.List.{length-map}
use Rattle.store_theory.specs.Bindings.{nothing_more}
use Rattle.store_theory.specs.Stores.{Solution, Solves}
use Rattle.store_theory.specs.Systems.{is_label}
use Rattle.search_theory.specs.KeepingCells.{AddsRight, equation_cells}
use Rattle.term_store.specs.ClauseView.{the_gamma}
use Rattle.term_store.specs.RefView.{the_place}
use Rattle.term_unify.specs.Flat.{HasNoString, HasNoStringIn}
use Rattle.term_store.specs.SystemView.{the_equation}
use Rattle.domain_cond.specs.Conditions.{HomeAllows, IsForced}
use Rattle.domain_cond.proofs.AskingLaws.{right-leaf}
use Rattle.domain_cond.proofs.ConditionLaws.{allow-all, allow-next, allow-start, gamma-parts, holds-free, leaf-end, leaf-forced, same-added}
use Rattle.domain_cond.proofs.unmet.unmet_term.Goals as goal

pub leaves-requires : goal.leaves-requires
leaves-requires c = (gamma-parts c.args.store.now.store (the_gamma c.args.gamma.now) c.requires.gamma).0

pub loop-i-init : goal.loop-i-init
loop-i-init c = record { same = refl; allow = allow-start c.args.problem.now c.args.store.now.store (map the_place c.in_ok-leaves.leaves.items) c.args.gamma.now.label; room = (omega arith, omega arith) }

pub unmet_leaf-requires-clause-end : goal.unmet_leaf-requires-clause-end
unmet_leaf-requires-clause-end c =
    let at : slice_get (map the_place c.in_ok-leaves.leaves.items) c.loop-i.i ≡ Some c.leaf_at-leaf.result.0 = ap (λ xs. slice_get (map the_place xs) c.loop-i.i) (sym c.deref.ensures.value) ∙ c.leaf_at-leaf.ensures in
    leaf-end c.args.store.now.store c.loop-i.store.store c.args.gamma.now.term.0 (map the_place c.in_ok-leaves.leaves.items) c.loop-i.i c.leaf_at-leaf.result.0 c.in_ok-leaves.ensures at c.loop-i.invariant.same

pub unmet_leaf-requires-clause-label : goal.unmet_leaf-requires-clause-label
unmet_leaf-requires-clause-label c = subst (λ xs. IsTrue (is_label c.loop-i.store.store xs)) (sym c.items-label.ensures) (subst (λ t. IsTrue (is_label t c.args.gamma.now.label)) (sym c.loop-i.invariant.same) (gamma-parts c.args.store.now.store (the_gamma c.args.gamma.now) c.requires.gamma).1)

pub unmet_leaf-requires-clause-free_leaf : goal.unmet_leaf-requires-clause-free_leaf
unmet_leaf-requires-clause-free_leaf c =
    let at : slice_get (map the_place c.in_ok-leaves.leaves.items) c.loop-i.i ≡ Some c.leaf_at-leaf.result.0 = ap (λ xs. slice_get (map the_place xs) c.loop-i.i) (sym c.deref.ensures.value) ∙ c.leaf_at-leaf.ensures in
    subst (λ t. HasNoStringIn t c.leaf_at-leaf.result.0) (sym c.loop-i.invariant.same) (holds-free c.args.store.now.store c.leaf_at-leaf.result.0 c.args.gamma.now.term.0 (c.in_ok-leaves.ensures.held c.loop-i.i c.leaf_at-leaf.result.0 at).0 c.requires.free_term)

pub unmet_leaf-requires-clause-free_label : goal.unmet_leaf-requires-clause-free_label
unmet_leaf-requires-clause-free_label c = subst (HasNoString c.loop-i.store.store) (sym c.items-label.ensures) (subst (λ t. HasNoString t c.args.gamma.now.label) (sym c.loop-i.invariant.same) c.requires.free_label)

pub loop-i-preserved : goal.loop-i-preserved
loop-i-preserved c =
    let P = c.args.problem.now in
    let s = c.args.store.now.store in
    let leaf = c.leaf_at-leaf.result.0 in
    let same = c.loop-i.invariant.same in
    let at : slice_get (map the_place c.in_ok-leaves.leaves.items) c.loop-i.i ≡ Some leaf = ap (λ xs. slice_get (map the_place xs) c.loop-i.i) (sym c.deref.ensures.value) ∙ c.leaf_at-leaf.ensures in
    let none : c.in_ok-e.field-0 ≡ None = search rules in
    let met : (σ : Solution) → Solves s σ → HomeAllows P s leaf c.args.gamma.now.label σ = subst (λ t. (σ : Solution) → Solves t σ → HomeAllows P t leaf c.args.gamma.now.label σ) same (subst (λ ls. (σ : Solution) → Solves c.loop-i.store.store σ → HomeAllows P c.loop-i.store.store leaf ls σ) c.items-label.ensures (c.in_ok-e.ensures.met none)) in
    let a = c.loop-i.invariant.room in
    let b = c.unmet_leaf.ensures.room in
    record {
      same = c.in_ok-e.ensures.unchanged none ∙ same;
      allow = allow-next P s (map the_place c.in_ok-leaves.leaves.items) c.args.gamma.now.label c.loop-i.i leaf c.loop-i.invariant.allow at met;
      room = (omega (arith, a, b), omega (arith, a, b));
    }

pub returns-in-Some-clause-unmet : goal.returns-in-Some-clause-unmet
returns-in-Some-clause-unmet c =
    let P = c.args.problem.now in
    let s = c.args.store.now.store in
    let new = c.unmet_leaf.new.store.store in
    let leaf = c.leaf_at-leaf.result.0 in
    let at : slice_get (map the_place c.in_ok-leaves.leaves.items) c.loop-i.i ≡ Some leaf = ap (λ xs. slice_get (map the_place xs) c.loop-i.i) (sym c.deref.ensures.value) ∙ c.leaf_at-leaf.ensures in
    let forced : IsForced new (HomeAllows P s leaf c.args.gamma.now.label) (the_equation c.in-Some.e) = subst (λ t. IsForced new (HomeAllows P t leaf c.args.gamma.now.label) (the_equation c.in-Some.e)) c.loop-i.invariant.same (subst (λ ls. IsForced new (HomeAllows P c.loop-i.store.store leaf ls) (the_equation c.in-Some.e)) c.items-label.ensures (subst (λ o. IfSome o (λ e. IsForced new (HomeAllows P c.loop-i.store.store leaf (map the_place c.items-label.result.now)) (the_equation e))) c.in-Some.is c.in_ok-e.ensures.unmet)) in
    leaf-forced P s new (the_gamma c.args.gamma.now) (map the_place c.in_ok-leaves.leaves.items) c.loop-i.i leaf (the_equation c.in-Some.e) c.in_ok-leaves.ensures at forced

pub returns-in-Some-clause-right : goal.returns-in-Some-clause-right
returns-in-Some-clause-right c =
    let P = c.args.problem.now in
    let s = c.args.store.now.store in
    let new = c.unmet_leaf.new.store.store in
    let leaf = c.leaf_at-leaf.result.0 in
    let at : slice_get (map the_place c.in_ok-leaves.leaves.items) c.loop-i.i ≡ Some leaf = ap (λ xs. slice_get (map the_place xs) c.loop-i.i) (sym c.deref.ensures.value) ∙ c.leaf_at-leaf.ensures in
    let cells = equation_cells (the_equation c.in-Some.e) in
    let adds : AddsRight P (leaf ∷ map the_place c.items-label.result.now) c.loop-i.store.store new cells = subst (λ o. IfSome o (λ e. AddsRight P (leaf ∷ map the_place c.items-label.result.now) c.loop-i.store.store new (equation_cells (the_equation e)))) c.in-Some.is c.in_ok-e.ensures.right in
    right-leaf P s new (the_gamma c.args.gamma.now) (map the_place c.in_ok-leaves.leaves.items) c.loop-i.i leaf cells c.in_ok-leaves.ensures at (subst (λ t. AddsRight P (leaf ∷ c.args.gamma.now.label) t new cells) c.loop-i.invariant.same (subst (λ ls. AddsRight P (leaf ∷ ls) c.loop-i.store.store new cells) c.items-label.ensures adds))

pub returns-in_err-leaves-clause-adds : goal.returns-in_err-leaves-clause-adds
returns-in_err-leaves-clause-adds c = nothing_more

pub returns-clause-met : goal.returns-clause-met
returns-clause-met c = λ e σ t.
    let n = length-map c.in_ok-leaves.leaves.items the_place in
    allow-all c.args.problem.now c.args.store.now.store (the_gamma c.args.gamma.now) (map the_place c.in_ok-leaves.leaves.items) c.loop-i.i c.in_ok-leaves.ensures (omega (arith, n)) c.loop-i.invariant.allow σ t

pub returns-clause-adds : goal.returns-clause-adds
returns-clause-adds c = same-added c.args.store.now.store c.loop-i.store.store c.loop-i.invariant.same
