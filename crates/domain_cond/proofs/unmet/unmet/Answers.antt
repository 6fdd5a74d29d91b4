use Rattle.std.proofs.Common.{rules, ◌≡◌, ◌∙◌, IfSome, IsTrue, None, Some, ap, arith, length, refl, slice_get, subst, sym}
use Rattle.std.proofs.lemmas.List.{length-map}
use Rattle.store_theory.specs.Bindings.{AddsBuilt}
use Rattle.store_theory.specs.Stores.{Solution, Solves}
use Rattle.store_theory.specs.Systems.{cells_of, is_gamma_cell}
use Rattle.search_theory.specs.KeepingCells.{AddsRight, equation_cells, gamma_cells}
use Rattle.term_store.specs.ClauseView.{the_gamma}
use Rattle.search_theory.specs.HomesTold.{HomesAllow}
use Rattle.term_store.specs.SystemView.{the_equation, the_system}
use Rattle.term_unify.specs.Flat.{HasNoString, HasNoStringIn}
use Rattle.domain_cond.specs.Conditions.{IsForced}
use Rattle.domain_cond.proofs.AskingLaws.{right-asked, right-gamma}
use Rattle.domain_cond.proofs.ConditionLaws.{each-all, each-next, each-start, gamma-at, gamma-demanded, gamma-free, same-added}
use Rattle.domain_cond.proofs.unmet.unmet.Goals as goal

pub loop-i-init : goal.loop-i-init
loop-i-init c = record { same = refl; allow = each-start c.args.problem.now c.args.store.now.store (the_system c.args.system.now).gammas; room = (omega arith, omega arith) }

pub unmet_term-requires-clause-gamma : goal.unmet_term-requires-clause-gamma
unmet_term-requires-clause-gamma c =
    let at : slice_get (the_system c.args.system.now).gammas c.loop-i.i ≡ Some (the_gamma c.gamma_at-gamma.result.now) = ap (λ xs. slice_get xs c.loop-i.i) (sym c.items-gammas.ensures) ∙ c.gamma_at-gamma.ensures in
    subst (λ t. IsTrue (is_gamma_cell t (the_gamma c.gamma_at-gamma.result.now))) (sym c.loop-i.invariant.same) (gamma-at c.args.store.now.store (the_system c.args.system.now) c.loop-i.i (the_gamma c.gamma_at-gamma.result.now) c.requires.fits at)

pub unmet_term-requires-clause-free_term : goal.unmet_term-requires-clause-free_term
unmet_term-requires-clause-free_term c =
    let at : slice_get (the_system c.args.system.now).gammas c.loop-i.i ≡ Some (the_gamma c.gamma_at-gamma.result.now) = ap (λ xs. slice_get xs c.loop-i.i) (sym c.items-gammas.ensures) ∙ c.gamma_at-gamma.ensures in
    subst (λ t. HasNoStringIn t (the_gamma c.gamma_at-gamma.result.now).term) (sym c.loop-i.invariant.same) (gamma-free c.args.store.now.store (the_system c.args.system.now) c.requires.no_string c.loop-i.i (the_gamma c.gamma_at-gamma.result.now) at).0

pub unmet_term-requires-clause-free_label : goal.unmet_term-requires-clause-free_label
unmet_term-requires-clause-free_label c =
    let at : slice_get (the_system c.args.system.now).gammas c.loop-i.i ≡ Some (the_gamma c.gamma_at-gamma.result.now) = ap (λ xs. slice_get xs c.loop-i.i) (sym c.items-gammas.ensures) ∙ c.gamma_at-gamma.ensures in
    subst (λ t. HasNoString t (the_gamma c.gamma_at-gamma.result.now).label) (sym c.loop-i.invariant.same) (gamma-free c.args.store.now.store (the_system c.args.system.now) c.requires.no_string c.loop-i.i (the_gamma c.gamma_at-gamma.result.now) at).1

pub loop-i-preserved : goal.loop-i-preserved
loop-i-preserved c =
    let P = c.args.problem.now in
    let s = c.args.store.now.store in
    let g = the_gamma c.gamma_at-gamma.result.now in
    let same = c.loop-i.invariant.same in
    let at : slice_get (the_system c.args.system.now).gammas c.loop-i.i ≡ Some g = ap (λ xs. slice_get xs c.loop-i.i) (sym c.items-gammas.ensures) ∙ c.gamma_at-gamma.ensures in
    let none : c.in_ok-e.field-0 ≡ None = search rules in
    let met : (σ : Solution) → Solves s σ → HomesAllow P s σ g = subst (λ t. (σ : Solution) → Solves t σ → HomesAllow P t σ g) same (c.in_ok-e.ensures.met none) in
    let a = c.loop-i.invariant.room in
    let b = c.unmet_term.ensures.room in
    record {
      same = c.in_ok-e.ensures.unchanged none ∙ same;
      allow = each-next P s (the_system c.args.system.now).gammas c.loop-i.i g c.loop-i.invariant.allow at met;
      room = (omega (arith, a, b), omega (arith, a, b));
    }

pub returns-in-Some-clause-unmet : goal.returns-in-Some-clause-unmet
returns-in-Some-clause-unmet c =
    let P = c.args.problem.now in
    let s = c.args.store.now.store in
    let new = c.unmet_term.new.store.store in
    let g = the_gamma c.gamma_at-gamma.result.now in
    let at : slice_get (the_system c.args.system.now).gammas c.loop-i.i ≡ Some g = ap (λ xs. slice_get xs c.loop-i.i) (sym c.items-gammas.ensures) ∙ c.gamma_at-gamma.ensures in
    let adds : AddsBuilt s new = subst (λ t. AddsBuilt t new) c.loop-i.invariant.same c.unmet_term.ensures.adds in
    gamma-demanded P s new (the_system c.args.system.now) c.loop-i.i g (the_equation c.in-Some.e) adds at (subst (λ t. IsForced new (λ σ. HomesAllow P t σ g) (the_equation c.in-Some.e)) c.loop-i.invariant.same (subst (λ o. IfSome o (λ e. IsForced new (λ σ. HomesAllow P c.loop-i.store.store σ g) (the_equation e))) c.in-Some.is c.in_ok-e.ensures.unmet))

pub returns-in-Some-clause-right : goal.returns-in-Some-clause-right
returns-in-Some-clause-right c =
    let P = c.args.problem.now in
    let s = c.args.store.now.store in
    let new = c.unmet_term.new.store.store in
    let y = the_system c.args.system.now in
    let g = the_gamma c.gamma_at-gamma.result.now in
    let e = the_equation c.in-Some.e in
    let at : slice_get y.gammas c.loop-i.i ≡ Some g = ap (λ xs. slice_get xs c.loop-i.i) (sym c.items-gammas.ensures) ∙ c.gamma_at-gamma.ensures in
    let adds : AddsRight P (gamma_cells g) c.loop-i.store.store new (equation_cells e) = subst (λ o. IfSome o (λ x. AddsRight P (gamma_cells g) c.loop-i.store.store new (equation_cells (the_equation x)))) c.in-Some.is c.in_ok-e.ensures.right in
    right-asked P (cells_of y) s new e (right-gamma P s new y c.loop-i.i g (equation_cells e) at (subst (λ t. AddsRight P (gamma_cells g) t new (equation_cells e)) c.loop-i.invariant.same adds))

pub returns-clause-met : goal.returns-clause-met
returns-clause-met c = λ e.
    let n = length-map c.items-gammas.result.now the_gamma in
    let whole : length (the_system c.args.system.now).gammas ≡ length c.items-gammas.result.now = ap length (sym c.items-gammas.ensures) ∙ n in
    each-all c.args.problem.now c.args.store.now.store (the_system c.args.system.now).gammas c.loop-i.i (omega (arith, whole)) c.loop-i.invariant.allow

pub returns-clause-adds : goal.returns-clause-adds
returns-clause-adds c = same-added c.args.store.now.store c.loop-i.store.store c.loop-i.invariant.same
