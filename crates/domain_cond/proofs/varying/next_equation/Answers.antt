use Rattle.std.proofs.Common.{◌≡◌, ◌∙◌, false, subst, sym, true}
use Rattle.std.proofs.lemmas.Option.{IfSome_then}
use Rattle.calculus.specs.Skolem.{common_spares}
use Rattle.store_theory.specs.Systems.{AllAllowed, OwnSparesMeet, cells_of}
use Rattle.search_theory.specs.KeepingCells.{EquatesRight}
use Rattle.term_store.specs.SystemView.{the_equation, the_system}
use Rattle.domain_cond.specs.Standings.{HasOwnSpares}
use Rattle.domain_cond.proofs.ConditionLaws.{met-homes_allow}
use Rattle.domain_cond.proofs.OwnLaws.{own-met}
use Rattle.domain_cond.proofs.varying.next_equation.Goals as goal

pub unmet-requires-clause-not_constant : goal.unmet-requires-clause-not_constant
unmet-requires-clause-not_constant c = λ e. (let z = sym c.requires.varying ∙ e in cc z)

pub returns-then-common_spares-clause-none : goal.returns-then-common_spares-clause-none
returns-then-common_spares-clause-none c = λ e.
    let P = c.args.problem.now in
    let s = c.args.store.now.store in
    let y = the_system c.args.system.now in
    let common : common_spares P ≡ true = sym c.common_spares.ensures ∙ c.if-common_spares.true in
    subst (λ t. OwnSparesMeet (common_spares P) (AllAllowed P) t y) (sym (c.in_ok-e.ensures.unchanged c.in_default.is)) (met-homes_allow P s y c.mark-now.ensures.well common c.requires.fits (c.in_ok-e.ensures.met c.in_default.is))

pub returns-clause-none : goal.returns-clause-none
returns-clause-none c = λ e.
    let P = c.args.problem.now in
    let s = c.args.store.now.store in
    let y = the_system c.args.system.now in
    let common : common_spares P ≡ false = sym c.common_spares.ensures ∙ c.if-common_spares.false in
    let same : c.unmet.new.store.store ≡ s = c.in_ok-e.ensures.unchanged c.in_default.is in
    let own : HasOwnSpares s y.gammas = subst (λ t. HasOwnSpares t y.gammas) same (c.in_ok-equation.ensures.met e) in
    subst (λ t. OwnSparesMeet (common_spares P) (AllAllowed P) t y) (sym (c.in_ok-equation.ensures.unchanged e ∙ same)) (own-met P s y c.mark-now.ensures.well c.requires.varying common c.requires.fits (c.in_ok-e.ensures.met c.in_default.is) own)

pub returns-then-common_spares-clause-unchanged : goal.returns-then-common_spares-clause-unchanged
returns-then-common_spares-clause-unchanged c = λ e. c.in_ok-e.ensures.unchanged c.in_default.is

pub returns-clause-unchanged : goal.returns-clause-unchanged
returns-clause-unchanged c = λ e. c.in_ok-equation.ensures.unchanged e ∙ c.in_ok-e.ensures.unchanged c.in_default.is

pub returns-clause-right : goal.returns-clause-right
returns-clause-right c =
    let P = c.args.problem.now in
    let ks = cells_of (the_system c.args.system.now) in
    IfSome_then c.in_ok-equation.equation c.in_ok-equation.ensures.right (λ e h. subst (λ t. EquatesRight P ks t c.unmet_by_spares.new.store.store (the_equation e)) (c.in_ok-e.ensures.unchanged c.in_default.is) (h P))
