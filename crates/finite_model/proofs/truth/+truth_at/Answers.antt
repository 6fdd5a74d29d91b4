-- The worlds and elements before an item are passed, and the answer at an item is that of the list.
use Rattle.std.proofs.Common.{Ok, Err, ◌∷◌, take, get_or, reverse, true, false, not, sym, ◌∙◌, ap, arith}
use Rattle.calculus.specs.Lists.{terms_tree}
use Rattle.calculus.specs.StructureTruth.{told_at, not_told}
use Rattle.calculus.specs.Structures.{domain_of}
use Rattle.calculus.specs.Syntax.{atom, neg, conj, disj, imp, all, ex, box, dia}
use Rattle.formula_core.specs.FormulaView.{the_formula}
use Rattle.finite_model.specs.Seeking.{decide_told, left, seek_told}
use Rattle.finite_model.proofs.SeekLaws.{equal-told, apart-told, sought-here, sought-next, sought-stopped, sought-nowhere, each-here, each-on, each-broken, each-everywhere, not-told, not-told_stopped, decided-here, decided-next, decided-stopped, told-bound, told-passed, seek-on, told-value}
use Rattle.finite_model.proofs.FormulaArms.{form-Atom, form-Not, form-And, form-Or, form-Imp, form-All, form-Ex, form-Nec, form-Poss}
use Rattle.finite_model.proofs.EnvLaws.{bound-more, bound-back}
use Rattle.finite_model.proofs.TruthArms.{at-form, arm-atom, arm-not, arm-and, arm-or, arm-imp, arm-all, arm-ex, arm-box, arm-dia, no-step, none-left, one-taken}
use Rattle.finite_model.proofs.truth.+truth_at.Goals as goal

pub seek_worlds-loop-world-preserved : goal.seek_worlds-loop-world-preserved
seek_worlds-loop-world-preserved t c = (
  sought-next c.args.value (told_at c.args.logic c.args.structure.now (the_formula c.args.formula.now) (reverse (take c.args.bound c.args.env.now))) c.args.worlds.now c.loop-world.world-index (left c.args.ledger.now) (left c.loop-world.ledger) c.in_ok-found.found c.truth_at.new.ledger (omega arith) c.loop-world.invariant.0 (told-bound (Ok c.in_ok-found.found) c.truth_at.new.ledger (λ e. told_at c.args.logic c.args.structure.now (the_formula c.args.formula.now) (reverse e) (get_or c.args.worlds.now c.loop-world.world-index 0)) _ _ (left c.loop-world.ledger) c.loop-world.invariant.1 c.in_ok-found.ensures.told) (apart-told _ _ c.if-found-value.false),
  c.in_ok-found.ensures.env ∙ c.loop-world.invariant.1,
  c.in_ok-found.ensures.budget ∙ c.loop-world.invariant.2,
)

pub seek_worlds-returns-then-found-value-clause-told : goal.seek_worlds-returns-then-found-value-clause-told
seek_worlds-returns-then-found-value-clause-told t c = sought-here c.args.value (told_at c.args.logic c.args.structure.now (the_formula c.args.formula.now) (reverse (take c.args.bound c.args.env.now))) c.args.worlds.now c.loop-world.world-index (left c.args.ledger.now) (left c.loop-world.ledger) c.in_ok-found.found c.truth_at.new.ledger (omega arith) c.loop-world.invariant.0 (told-bound (Ok c.in_ok-found.found) c.truth_at.new.ledger (λ e. told_at c.args.logic c.args.structure.now (the_formula c.args.formula.now) (reverse e) (get_or c.args.worlds.now c.loop-world.world-index 0)) _ _ (left c.loop-world.ledger) c.loop-world.invariant.1 c.in_ok-found.ensures.told) (equal-told _ _ c.if-found-value.true)

pub seek_worlds-returns-in_err-found-clause-told : goal.seek_worlds-returns-in_err-found-clause-told
seek_worlds-returns-in_err-found-clause-told t c = told-passed c.from_residual.result c.in_err-found.field-0.0 c.truth_at.new.ledger _ c.from_residual.ensures.1
    (sought-stopped c.args.value (told_at c.args.logic c.args.structure.now (the_formula c.args.formula.now) (reverse (take c.args.bound c.args.env.now))) c.args.worlds.now c.loop-world.world-index (left c.args.ledger.now) (left c.loop-world.ledger) c.in_err-found.field-0.0 c.truth_at.new.ledger (omega arith) c.loop-world.invariant.0 (told-bound (Err c.in_err-found.field-0.0) c.truth_at.new.ledger (λ e. told_at c.args.logic c.args.structure.now (the_formula c.args.formula.now) (reverse e) (get_or c.args.worlds.now c.loop-world.world-index 0)) _ _ (left c.loop-world.ledger) c.loop-world.invariant.1 c.in_err-found.ensures.told))

pub seek_worlds-returns-clause-told : goal.seek_worlds-returns-clause-told
seek_worlds-returns-clause-told t c = sought-nowhere c.args.value (told_at c.args.logic c.args.structure.now (the_formula c.args.formula.now) (reverse (take c.args.bound c.args.env.now))) c.args.worlds.now c.loop-world.world-index (left c.args.ledger.now) c.loop-world.ledger (omega arith) c.loop-world.invariant.0

pub seek_elements-loop-element-preserved : goal.seek_elements-loop-element-preserved
seek_elements-loop-element-preserved t c = (
  sought-next c.args.value (λ x. told_at c.args.logic c.args.structure.now (the_formula c.args.formula.now) (x ∷ (reverse (take c.args.bound c.args.env.now))) c.args.world) c.domain_of-element-items.result.now c.loop-element.element-index (left c.args.ledger.now) (left c.loop-element.ledger) c.in_ok-found.found c.truth_at.new.ledger (omega arith) c.loop-element.invariant.0 (told-bound (Ok c.in_ok-found.found) c.truth_at.new.ledger (λ e. told_at c.args.logic c.args.structure.now (the_formula c.args.formula.now) e c.args.world) _ _ (left c.loop-element.ledger) (bound-more c.loop-element.env c.args.bound (get_or c.domain_of-element-items.result.now c.loop-element.element-index 0) (omega arith) ∙ ap (λ e. (get_or c.domain_of-element-items.result.now c.loop-element.element-index 0) ∷ reverse e) c.loop-element.invariant.1) c.in_ok-found.ensures.told) (apart-told _ _ c.if-found-value.false),
  bound-back c.loop-element.env c.truth_at.new.env c.args.bound (get_or c.domain_of-element-items.result.now c.loop-element.element-index 0) c.in_ok-found.ensures.env ∙ c.loop-element.invariant.1,
  c.in_ok-found.ensures.budget ∙ c.loop-element.invariant.2,
)

pub seek_elements-returns-then-found-value-clause-told : goal.seek_elements-returns-then-found-value-clause-told
seek_elements-returns-then-found-value-clause-told t c = seek-on (Ok true) c.truth_at.new.ledger c.args.value (λ x. told_at c.args.logic c.args.structure.now (the_formula c.args.formula.now) (x ∷ (reverse (take c.args.bound c.args.env.now))) c.args.world) c.domain_of-element-items.result.now _ (left c.args.ledger.now) c.domain_of-element-items.ensures (sought-here c.args.value (λ x. told_at c.args.logic c.args.structure.now (the_formula c.args.formula.now) (x ∷ (reverse (take c.args.bound c.args.env.now))) c.args.world) c.domain_of-element-items.result.now c.loop-element.element-index (left c.args.ledger.now) (left c.loop-element.ledger) c.in_ok-found.found c.truth_at.new.ledger (omega arith) c.loop-element.invariant.0 (told-bound (Ok c.in_ok-found.found) c.truth_at.new.ledger (λ e. told_at c.args.logic c.args.structure.now (the_formula c.args.formula.now) e c.args.world) _ _ (left c.loop-element.ledger) (bound-more c.loop-element.env c.args.bound (get_or c.domain_of-element-items.result.now c.loop-element.element-index 0) (omega arith) ∙ ap (λ e. (get_or c.domain_of-element-items.result.now c.loop-element.element-index 0) ∷ reverse e) c.loop-element.invariant.1) c.in_ok-found.ensures.told) (equal-told _ _ c.if-found-value.true))

pub seek_elements-returns-then-found-value-clause-env : goal.seek_elements-returns-then-found-value-clause-env
seek_elements-returns-then-found-value-clause-env t c = bound-back c.loop-element.env c.truth_at.new.env c.args.bound (get_or c.domain_of-element-items.result.now c.loop-element.element-index 0) c.in_ok-found.ensures.env ∙ c.loop-element.invariant.1

pub seek_elements-returns-in_err-found-clause-told : goal.seek_elements-returns-in_err-found-clause-told
seek_elements-returns-in_err-found-clause-told t c = told-passed c.from_residual.result c.in_err-found.field-0.0 c.truth_at.new.ledger _ c.from_residual.ensures.1
    (seek-on (Err c.in_err-found.field-0.0) c.truth_at.new.ledger c.args.value (λ x. told_at c.args.logic c.args.structure.now (the_formula c.args.formula.now) (x ∷ (reverse (take c.args.bound c.args.env.now))) c.args.world) c.domain_of-element-items.result.now _ (left c.args.ledger.now) c.domain_of-element-items.ensures (sought-stopped c.args.value (λ x. told_at c.args.logic c.args.structure.now (the_formula c.args.formula.now) (x ∷ (reverse (take c.args.bound c.args.env.now))) c.args.world) c.domain_of-element-items.result.now c.loop-element.element-index (left c.args.ledger.now) (left c.loop-element.ledger) c.in_err-found.field-0.0 c.truth_at.new.ledger (omega arith) c.loop-element.invariant.0 (told-bound (Err c.in_err-found.field-0.0) c.truth_at.new.ledger (λ e. told_at c.args.logic c.args.structure.now (the_formula c.args.formula.now) e c.args.world) _ _ (left c.loop-element.ledger) (bound-more c.loop-element.env c.args.bound (get_or c.domain_of-element-items.result.now c.loop-element.element-index 0) (omega arith) ∙ ap (λ e. (get_or c.domain_of-element-items.result.now c.loop-element.element-index 0) ∷ reverse e) c.loop-element.invariant.1) c.in_err-found.ensures.told)))

pub seek_elements-returns-in_err-found-clause-env : goal.seek_elements-returns-in_err-found-clause-env
seek_elements-returns-in_err-found-clause-env t c = bound-back c.loop-element.env c.truth_at.new.env c.args.bound (get_or c.domain_of-element-items.result.now c.loop-element.element-index 0) c.in_err-found.ensures.env ∙ c.loop-element.invariant.1

pub seek_elements-returns-clause-told : goal.seek_elements-returns-clause-told
seek_elements-returns-clause-told t c = seek-on (Ok false) c.loop-element.ledger c.args.value (λ x. told_at c.args.logic c.args.structure.now (the_formula c.args.formula.now) (x ∷ (reverse (take c.args.bound c.args.env.now))) c.args.world) c.domain_of-element-items.result.now _ (left c.args.ledger.now) c.domain_of-element-items.ensures (sought-nowhere c.args.value (λ x. told_at c.args.logic c.args.structure.now (the_formula c.args.formula.now) (x ∷ (reverse (take c.args.bound c.args.env.now))) c.args.world) c.domain_of-element-items.result.now c.loop-element.element-index (left c.args.ledger.now) c.loop-element.ledger (omega arith) c.loop-element.invariant.0)

pub decided-returns-then-found-decisive-clause-told : goal.decided-returns-then-found-decisive-clause-told
decided-returns-then-found-decisive-clause-told t c = decided-here c.args.decisive c.args.answer (told_at c.args.logic c.args.structure.now (the_formula c.args.first.now) (reverse (take c.args.bound c.args.env.now)) c.args.world) (told_at c.args.logic c.args.structure.now (the_formula c.args.second.now) (reverse (take c.args.bound c.args.env.now)) c.args.world) (left c.args.ledger.now) c.in_ok-found.found c.truth_at.new.ledger c.in_ok-found.ensures.told (equal-told _ _ c.if-found-decisive.true)

pub decided-returns-in_err-found-clause-told : goal.decided-returns-in_err-found-clause-told
decided-returns-in_err-found-clause-told t c = told-passed c.from_residual.result c.in_err-found.field-0.0 c.truth_at.new.ledger _ c.from_residual.ensures.1
    (decided-stopped c.args.decisive c.args.answer (told_at c.args.logic c.args.structure.now (the_formula c.args.first.now) (reverse (take c.args.bound c.args.env.now)) c.args.world) (told_at c.args.logic c.args.structure.now (the_formula c.args.second.now) (reverse (take c.args.bound c.args.env.now)) c.args.world) (left c.args.ledger.now) c.in_err-found.field-0.0 c.truth_at.new.ledger c.in_err-found.ensures.told)

pub decided-returns-clause-told : goal.decided-returns-clause-told
decided-returns-clause-told t c = decided-next c.args.decisive c.args.answer (told_at c.args.logic c.args.structure.now (the_formula c.args.first.now) (reverse (take c.args.bound c.args.env.now)) c.args.world) (told_at c.args.logic c.args.structure.now (the_formula c.args.second.now) (reverse (take c.args.bound c.args.env.now)) c.args.world) (left c.args.ledger.now) c.in_ok-found.found c.truth_at.new.ledger c.truth_at-2.new.ledger c.truth_at-2.result c.in_ok-found.ensures.told (apart-told _ _ c.if-found-decisive.false)
    (told-bound c.truth_at-2.result c.truth_at-2.new.ledger (λ e. told_at c.args.logic c.args.structure.now (the_formula c.args.second.now) (reverse e) c.args.world) _ _ (left c.truth_at.new.ledger) c.in_ok-found.ensures.env c.truth_at-2.ensures.told)

pub decided-returns-clause-env : goal.decided-returns-clause-env
decided-returns-clause-env t c = c.truth_at-2.ensures.env ∙ c.in_ok-found.ensures.env

pub decided-returns-clause-budget : goal.decided-returns-clause-budget
decided-returns-clause-budget t c = c.truth_at-2.ensures.budget ∙ c.in_ok-found.ensures.budget

pub implied_at_all-loop-world-preserved : goal.implied_at_all-loop-world-preserved
implied_at_all-loop-world-preserved t c = (
  each-on (λ v. decide_told false true (told_at c.args.logic c.args.structure.now (the_formula c.args.first.now) (reverse (take c.args.bound c.args.env.now)) v) (told_at c.args.logic c.args.structure.now (the_formula c.args.second.now) (reverse (take c.args.bound c.args.env.now)) v)) c.args.worlds.now c.loop-world.world-index (left c.args.ledger.now) (left c.loop-world.ledger) c.decided.new.ledger (omega arith) c.loop-world.invariant.0 (told-value c.in_ok-implied.implied true c.decided.new.ledger _ c.if-not-implied.false (told-bound (Ok c.in_ok-implied.implied) c.decided.new.ledger (λ e. decide_told false true (told_at c.args.logic c.args.structure.now (the_formula c.args.first.now) (reverse e) (get_or c.args.worlds.now c.loop-world.world-index 0)) (told_at c.args.logic c.args.structure.now (the_formula c.args.second.now) (reverse e) (get_or c.args.worlds.now c.loop-world.world-index 0))) _ _ (left c.loop-world.ledger) c.loop-world.invariant.1 c.in_ok-implied.ensures.told)),
  c.in_ok-implied.ensures.env ∙ c.loop-world.invariant.1,
  c.in_ok-implied.ensures.budget ∙ c.loop-world.invariant.2,
)

pub implied_at_all-returns-then-not-implied-clause-told : goal.implied_at_all-returns-then-not-implied-clause-told
implied_at_all-returns-then-not-implied-clause-told t c = each-here (λ v. decide_told false true (told_at c.args.logic c.args.structure.now (the_formula c.args.first.now) (reverse (take c.args.bound c.args.env.now)) v) (told_at c.args.logic c.args.structure.now (the_formula c.args.second.now) (reverse (take c.args.bound c.args.env.now)) v)) c.args.worlds.now c.loop-world.world-index (left c.args.ledger.now) (left c.loop-world.ledger) c.decided.new.ledger (omega arith) c.loop-world.invariant.0 (told-value c.in_ok-implied.implied false c.decided.new.ledger _ c.if-not-implied.true (told-bound (Ok c.in_ok-implied.implied) c.decided.new.ledger (λ e. decide_told false true (told_at c.args.logic c.args.structure.now (the_formula c.args.first.now) (reverse e) (get_or c.args.worlds.now c.loop-world.world-index 0)) (told_at c.args.logic c.args.structure.now (the_formula c.args.second.now) (reverse e) (get_or c.args.worlds.now c.loop-world.world-index 0))) _ _ (left c.loop-world.ledger) c.loop-world.invariant.1 c.in_ok-implied.ensures.told))

pub implied_at_all-returns-in_err-implied-clause-told : goal.implied_at_all-returns-in_err-implied-clause-told
implied_at_all-returns-in_err-implied-clause-told t c = told-passed c.from_residual.result c.in_err-implied.field-0.0 c.decided.new.ledger _ c.from_residual.ensures.1
    (each-broken (λ v. decide_told false true (told_at c.args.logic c.args.structure.now (the_formula c.args.first.now) (reverse (take c.args.bound c.args.env.now)) v) (told_at c.args.logic c.args.structure.now (the_formula c.args.second.now) (reverse (take c.args.bound c.args.env.now)) v)) c.args.worlds.now c.loop-world.world-index (left c.args.ledger.now) (left c.loop-world.ledger) c.in_err-implied.field-0.0 c.decided.new.ledger (omega arith) c.loop-world.invariant.0 (told-bound (Err c.in_err-implied.field-0.0) c.decided.new.ledger (λ e. decide_told false true (told_at c.args.logic c.args.structure.now (the_formula c.args.first.now) (reverse e) (get_or c.args.worlds.now c.loop-world.world-index 0)) (told_at c.args.logic c.args.structure.now (the_formula c.args.second.now) (reverse e) (get_or c.args.worlds.now c.loop-world.world-index 0))) _ _ (left c.loop-world.ledger) c.loop-world.invariant.1 c.in_err-implied.ensures.told))

pub implied_at_all-returns-clause-told : goal.implied_at_all-returns-clause-told
implied_at_all-returns-clause-told t c = each-everywhere (λ v. decide_told false true (told_at c.args.logic c.args.structure.now (the_formula c.args.first.now) (reverse (take c.args.bound c.args.env.now)) v) (told_at c.args.logic c.args.structure.now (the_formula c.args.second.now) (reverse (take c.args.bound c.args.env.now)) v)) c.args.worlds.now c.loop-world.world-index (left c.args.ledger.now) c.loop-world.ledger (omega arith) c.loop-world.invariant.0

pub true_for_all-loop-world-preserved : goal.true_for_all-loop-world-preserved
true_for_all-loop-world-preserved t c = (
  each-on (λ v. not_told (seek_told false (λ x. told_at c.args.logic c.args.structure.now (the_formula c.args.formula.now) (x ∷ (reverse (take c.args.bound c.args.env.now))) v) (domain_of c.args.structure.now v))) c.args.worlds.now c.loop-world.world-index (left c.args.ledger.now) (left c.loop-world.ledger) c.seek_elements.new.ledger (omega arith) c.loop-world.invariant.0 (told-value (not c.in_ok-found.found) true c.seek_elements.new.ledger _ (ap not c.if-found.false) (not-told c.in_ok-found.found c.seek_elements.new.ledger (seek_told false (λ x. told_at c.args.logic c.args.structure.now (the_formula c.args.formula.now) (x ∷ (reverse (take c.args.bound c.args.env.now))) (get_or c.args.worlds.now c.loop-world.world-index 0)) (domain_of c.args.structure.now (get_or c.args.worlds.now c.loop-world.world-index 0))) (left c.loop-world.ledger) (told-bound (Ok c.in_ok-found.found) c.seek_elements.new.ledger (λ e. seek_told false (λ x. told_at c.args.logic c.args.structure.now (the_formula c.args.formula.now) (x ∷ reverse e) (get_or c.args.worlds.now c.loop-world.world-index 0)) (domain_of c.args.structure.now (get_or c.args.worlds.now c.loop-world.world-index 0))) _ _ (left c.loop-world.ledger) c.loop-world.invariant.1 c.in_ok-found.ensures.told))),
  c.in_ok-found.ensures.env ∙ c.loop-world.invariant.1,
  c.in_ok-found.ensures.budget ∙ c.loop-world.invariant.2,
)

pub true_for_all-returns-then-found-clause-told : goal.true_for_all-returns-then-found-clause-told
true_for_all-returns-then-found-clause-told t c = each-here (λ v. not_told (seek_told false (λ x. told_at c.args.logic c.args.structure.now (the_formula c.args.formula.now) (x ∷ (reverse (take c.args.bound c.args.env.now))) v) (domain_of c.args.structure.now v))) c.args.worlds.now c.loop-world.world-index (left c.args.ledger.now) (left c.loop-world.ledger) c.seek_elements.new.ledger (omega arith) c.loop-world.invariant.0 (told-value (not c.in_ok-found.found) false c.seek_elements.new.ledger _ (ap not c.if-found.true) (not-told c.in_ok-found.found c.seek_elements.new.ledger (seek_told false (λ x. told_at c.args.logic c.args.structure.now (the_formula c.args.formula.now) (x ∷ (reverse (take c.args.bound c.args.env.now))) (get_or c.args.worlds.now c.loop-world.world-index 0)) (domain_of c.args.structure.now (get_or c.args.worlds.now c.loop-world.world-index 0))) (left c.loop-world.ledger) (told-bound (Ok c.in_ok-found.found) c.seek_elements.new.ledger (λ e. seek_told false (λ x. told_at c.args.logic c.args.structure.now (the_formula c.args.formula.now) (x ∷ reverse e) (get_or c.args.worlds.now c.loop-world.world-index 0)) (domain_of c.args.structure.now (get_or c.args.worlds.now c.loop-world.world-index 0))) _ _ (left c.loop-world.ledger) c.loop-world.invariant.1 c.in_ok-found.ensures.told)))

pub true_for_all-returns-in_err-found-clause-told : goal.true_for_all-returns-in_err-found-clause-told
true_for_all-returns-in_err-found-clause-told t c = told-passed c.from_residual.result c.in_err-found.field-0.0 c.seek_elements.new.ledger _ c.from_residual.ensures.1
    (each-broken (λ v. not_told (seek_told false (λ x. told_at c.args.logic c.args.structure.now (the_formula c.args.formula.now) (x ∷ (reverse (take c.args.bound c.args.env.now))) v) (domain_of c.args.structure.now v))) c.args.worlds.now c.loop-world.world-index (left c.args.ledger.now) (left c.loop-world.ledger) c.in_err-found.field-0.0 c.seek_elements.new.ledger (omega arith) c.loop-world.invariant.0 (not-told_stopped c.in_err-found.field-0.0 c.seek_elements.new.ledger (seek_told false (λ x. told_at c.args.logic c.args.structure.now (the_formula c.args.formula.now) (x ∷ (reverse (take c.args.bound c.args.env.now))) (get_or c.args.worlds.now c.loop-world.world-index 0)) (domain_of c.args.structure.now (get_or c.args.worlds.now c.loop-world.world-index 0))) (left c.loop-world.ledger) (told-bound (Err c.in_err-found.field-0.0) c.seek_elements.new.ledger (λ e. seek_told false (λ x. told_at c.args.logic c.args.structure.now (the_formula c.args.formula.now) (x ∷ reverse e) (get_or c.args.worlds.now c.loop-world.world-index 0)) (domain_of c.args.structure.now (get_or c.args.worlds.now c.loop-world.world-index 0))) _ _ (left c.loop-world.ledger) c.loop-world.invariant.1 c.in_err-found.ensures.told)))

pub true_for_all-returns-clause-told : goal.true_for_all-returns-clause-told
true_for_all-returns-clause-told t c = each-everywhere (λ v. not_told (seek_told false (λ x. told_at c.args.logic c.args.structure.now (the_formula c.args.formula.now) (x ∷ (reverse (take c.args.bound c.args.env.now))) v) (domain_of c.args.structure.now v))) c.args.worlds.now c.loop-world.world-index (left c.args.ledger.now) c.loop-world.ledger (omega arith) c.loop-world.invariant.0

pub truth_by_parts-returns-in-Atom-clause-told : goal.truth_by_parts-returns-in-Atom-clause-told
truth_by_parts-returns-in-Atom-clause-told t c = λ n e. at-form c.args.logic c.args.structure.now (the_formula c.args.formula.now) (atom c.in-Atom.predicate.0 (terms_tree c.in-Atom.args)) (reverse (take c.args.bound c.args.env.now)) c.args.world n (Ok c.is_atom_true.result) c.args.ledger.now (form-Atom c.args.formula.now c.in-Atom.predicate c.in-Atom.args c.in-Atom.is)
    (arm-atom c.args.logic c.args.structure.now c.in-Atom.predicate.0 (terms_tree c.in-Atom.args) (reverse (take c.args.bound c.args.env.now)) c.args.world n c.is_atom_true.result c.args.ledger.now c.chosen_worlds-worlds.result.now e c.chosen_worlds-worlds.ensures c.is_atom_true.ensures)

pub truth_by_parts-returns-in-Not-clause-told : goal.truth_by_parts-returns-in-Not-clause-told
truth_by_parts-returns-in-Not-clause-told t c = λ n e. at-form c.args.logic c.args.structure.now (the_formula c.args.formula.now) (neg (the_formula c.deref.result.now)) (reverse (take c.args.bound c.args.env.now)) c.args.world n c.negated.result c.seek_worlds.new.ledger (form-Not c.args.formula.now c.in-Not.a c.deref.result.now c.in-Not.is c.deref.ensures)
    (arm-not c.args.logic c.args.structure.now (the_formula c.deref.result.now) (reverse (take c.args.bound c.args.env.now)) c.args.world n (left c.args.ledger.now) c.negated.result c.seek_worlds.new.ledger c.chosen_worlds-worlds.result.now e c.chosen_worlds-worlds.ensures (c.negated.ensures _ _ c.seek_worlds.ensures.told))

pub truth_by_parts-returns-in-And-clause-told : goal.truth_by_parts-returns-in-And-clause-told
truth_by_parts-returns-in-And-clause-told t c = λ n e. at-form c.args.logic c.args.structure.now (the_formula c.args.formula.now) (conj (the_formula c.deref-in-And.result.now) (the_formula c.deref-in-And-2.result.now)) (reverse (take c.args.bound c.args.env.now)) c.args.world n c.decided.result c.decided.new.ledger (form-And c.args.formula.now c.in-And.a c.in-And.b c.deref-in-And.result.now c.deref-in-And-2.result.now c.in-And.is c.deref-in-And.ensures c.deref-in-And-2.ensures)
    (arm-and c.args.logic c.args.structure.now (the_formula c.deref-in-And.result.now) (the_formula c.deref-in-And-2.result.now) (reverse (take c.args.bound c.args.env.now)) c.args.world n (left c.args.ledger.now) c.decided.result c.decided.new.ledger e c.decided.ensures.told)

pub truth_by_parts-returns-in-Or-clause-told : goal.truth_by_parts-returns-in-Or-clause-told
truth_by_parts-returns-in-Or-clause-told t c = λ n e. at-form c.args.logic c.args.structure.now (the_formula c.args.formula.now) (disj (the_formula c.deref-in-Or.result.now) (the_formula c.deref-in-Or-2.result.now)) (reverse (take c.args.bound c.args.env.now)) c.args.world n c.decided-in-Or.result c.decided-in-Or.new.ledger (form-Or c.args.formula.now c.in-Or.a c.in-Or.b c.deref-in-Or.result.now c.deref-in-Or-2.result.now c.in-Or.is c.deref-in-Or.ensures c.deref-in-Or-2.ensures)
    (arm-or c.args.logic c.args.structure.now (the_formula c.deref-in-Or.result.now) (the_formula c.deref-in-Or-2.result.now) (reverse (take c.args.bound c.args.env.now)) c.args.world n (left c.args.ledger.now) c.decided-in-Or.result c.decided-in-Or.new.ledger e c.decided-in-Or.ensures.told)

pub truth_by_parts-returns-in-Imp-clause-told : goal.truth_by_parts-returns-in-Imp-clause-told
truth_by_parts-returns-in-Imp-clause-told t c = λ n e. at-form c.args.logic c.args.structure.now (the_formula c.args.formula.now) (imp (the_formula c.deref-in-Imp.result.now) (the_formula c.deref-in-Imp-2.result.now)) (reverse (take c.args.bound c.args.env.now)) c.args.world n c.implied_at_all.result c.implied_at_all.new.ledger (form-Imp c.args.formula.now c.in-Imp.a c.in-Imp.b c.deref-in-Imp.result.now c.deref-in-Imp-2.result.now c.in-Imp.is c.deref-in-Imp.ensures c.deref-in-Imp-2.ensures)
    (arm-imp c.args.logic c.args.structure.now (the_formula c.deref-in-Imp.result.now) (the_formula c.deref-in-Imp-2.result.now) (reverse (take c.args.bound c.args.env.now)) c.args.world n (left c.args.ledger.now) c.implied_at_all.result c.implied_at_all.new.ledger c.chosen_worlds-worlds.result.now e c.chosen_worlds-worlds.ensures c.implied_at_all.ensures.told)

pub truth_by_parts-returns-in-All-clause-told : goal.truth_by_parts-returns-in-All-clause-told
truth_by_parts-returns-in-All-clause-told t c = λ n e. at-form c.args.logic c.args.structure.now (the_formula c.args.formula.now) (all (the_formula c.deref-in-All.result.now)) (reverse (take c.args.bound c.args.env.now)) c.args.world n c.true_for_all.result c.true_for_all.new.ledger (form-All c.args.formula.now c.in-All.a c.deref-in-All.result.now c.in-All.is c.deref-in-All.ensures)
    (arm-all c.args.logic c.args.structure.now (the_formula c.deref-in-All.result.now) (reverse (take c.args.bound c.args.env.now)) c.args.world n (left c.args.ledger.now) c.true_for_all.result c.true_for_all.new.ledger c.chosen_worlds-worlds.result.now e c.chosen_worlds-worlds.ensures c.true_for_all.ensures.told)

pub truth_by_parts-returns-in-Ex-clause-told : goal.truth_by_parts-returns-in-Ex-clause-told
truth_by_parts-returns-in-Ex-clause-told t c = λ n e. at-form c.args.logic c.args.structure.now (the_formula c.args.formula.now) (ex (the_formula c.deref-in-Ex.result.now)) (reverse (take c.args.bound c.args.env.now)) c.args.world n c.seek_elements.result c.seek_elements.new.ledger (form-Ex c.args.formula.now c.in-Ex.a c.deref-in-Ex.result.now c.in-Ex.is c.deref-in-Ex.ensures)
    (arm-ex c.args.logic c.args.structure.now (the_formula c.deref-in-Ex.result.now) (reverse (take c.args.bound c.args.env.now)) c.args.world n (left c.args.ledger.now) c.seek_elements.result c.seek_elements.new.ledger e c.seek_elements.ensures.told)

pub truth_by_parts-returns-in-Nec-clause-told : goal.truth_by_parts-returns-in-Nec-clause-told
truth_by_parts-returns-in-Nec-clause-told t c = λ n e. at-form c.args.logic c.args.structure.now (the_formula c.args.formula.now) (box (the_formula c.deref-in-Nec.result.now)) (reverse (take c.args.bound c.args.env.now)) c.args.world n c.negated-in-Nec.result c.seek_worlds-in-Nec.new.ledger (form-Nec c.args.formula.now c.in-Nec.a c.deref-in-Nec.result.now c.in-Nec.is c.deref-in-Nec.ensures)
    (arm-box c.args.logic c.args.structure.now (the_formula c.deref-in-Nec.result.now) (reverse (take c.args.bound c.args.env.now)) c.args.world n (left c.args.ledger.now) c.negated-in-Nec.result c.seek_worlds-in-Nec.new.ledger c.successors_of-reached.result.now e c.successors_of-reached.ensures (c.negated-in-Nec.ensures _ _ c.seek_worlds-in-Nec.ensures.told))

pub truth_by_parts-returns-in-Poss-clause-told : goal.truth_by_parts-returns-in-Poss-clause-told
truth_by_parts-returns-in-Poss-clause-told t c = λ n e. at-form c.args.logic c.args.structure.now (the_formula c.args.formula.now) (dia (the_formula c.deref-in-Poss.result.now)) (reverse (take c.args.bound c.args.env.now)) c.args.world n c.seek_worlds-in-Poss.result c.seek_worlds-in-Poss.new.ledger (form-Poss c.args.formula.now c.in-Poss.a c.deref-in-Poss.result.now c.in-Poss.is c.deref-in-Poss.ensures)
    (arm-dia c.args.logic c.args.structure.now (the_formula c.deref-in-Poss.result.now) (reverse (take c.args.bound c.args.env.now)) c.args.world n (left c.args.ledger.now) c.seek_worlds-in-Poss.result c.seek_worlds-in-Poss.new.ledger c.successors_of-reached.result.now e c.successors_of-reached.ensures c.seek_worlds-in-Poss.ensures.told)

pub truth_at-returns-then-not-take-clause-told : goal.truth_at-returns-then-not-take-clause-told
truth_at-returns-then-not-take-clause-told t c = let none = none-left c.take.result c.args.ledger.now.used c.args.ledger.now.budget c.take.new.self.used c.args.ledger.now.in_budget c.take.ensures.taken c.take.ensures.used c.if-not-take.true in
    (no-step c.args.logic c.args.structure.now (the_formula c.args.formula.now) (reverse (take c.args.bound c.args.env.now)) c.args.world _ none.0, none.1 ∙ sym c.take.ensures.budget)

pub truth_at-returns-clause-told : goal.truth_at-returns-clause-told
truth_at-returns-clause-told t c = c.truth_by_parts.ensures.told (left c.args.ledger.now) (one-taken c.take.result c.args.ledger.now.used c.args.ledger.now.budget c.take.new.self.used c.take.new.self.budget c.take.ensures.taken c.take.ensures.used c.take.ensures.budget c.if-not-take.false)

pub truth_at-returns-clause-budget : goal.truth_at-returns-clause-budget
truth_at-returns-clause-budget t c = c.truth_by_parts.ensures.budget ∙ c.take.ensures.budget
