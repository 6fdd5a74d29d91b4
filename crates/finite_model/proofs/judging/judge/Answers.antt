use Rattle.std.proofs.Common.{◌-◌, length, reverse, take, sym, ◌∙◌, ap, subst, arith}
use Rattle.calculus.specs.Structures.{is_true}
use Rattle.calculus.specs.StructureTruth.{ways}
use Rattle.formula_core.specs.FormulaView.{the_formula}
use Rattle.finite_model.specs.Judging.{truth_of}
use Rattle.finite_model.proofs.Outcomes.{root-outcome, outcome-truth, outcome-used, outcome-cost, outcome-spent, outcome-steps, outcome-refutes, outcome-never, root-answer, same-judged}
use Rattle.finite_model.specs.Seeking.{left}
use Rattle.finite_model.specs.Shortened.{AreElements}
use Rattle.finite_model.proofs.ShortLaws.{few-levels}
use Rattle.finite_model.proofs.judging.judge.Goals as goal

pub returns-clause-truth : goal.returns-clause-truth
returns-clause-truth c = λ b e. outcome-truth (is_true c.args.problem.now c.args.structure.now) (ways c.args.problem.now c.args.structure.now) (c.args.ledger.now.budget - c.args.ledger.now.used) c.told_at_root-told.new.ledger c.told_at_root-told.result (root-outcome c.args.problem.now c.args.structure.now c.logic-logic.result (the_formula c.formula-formula.result.now) (c.args.ledger.now.budget - c.args.ledger.now.used) c.told_at_root-told.new.ledger c.told_at_root-told.result (c.logic-logic.ensures ∙ ap (λ s. s.logic) c.setting.ensures.setting) c.formula-formula.ensures.formula (c.told_at_root-told.ensures.told (the_formula c.formula-formula.result.now) c.in_ok-short.ensures)) b (ap truth_of (sym c.judged_of.ensures) ∙ e)

pub returns-clause-used : goal.returns-clause-used
returns-clause-used c = outcome-used (is_true c.args.problem.now c.args.structure.now) (ways c.args.problem.now c.args.structure.now) c.args.ledger.now.used c.args.ledger.now.budget c.told_at_root-told.new.ledger c.told_at_root-told.result c.told_at_root-told.ensures.budget c.args.ledger.now.in_budget c.told_at_root-told.new.ledger.in_budget (root-outcome c.args.problem.now c.args.structure.now c.logic-logic.result (the_formula c.formula-formula.result.now) (c.args.ledger.now.budget - c.args.ledger.now.used) c.told_at_root-told.new.ledger c.told_at_root-told.result (c.logic-logic.ensures ∙ ap (λ s. s.logic) c.setting.ensures.setting) c.formula-formula.ensures.formula (c.told_at_root-told.ensures.told (the_formula c.formula-formula.result.now) c.in_ok-short.ensures))

pub returns-clause-cost : goal.returns-clause-cost
returns-clause-cost c = outcome-cost (is_true c.args.problem.now c.args.structure.now) (ways c.args.problem.now c.args.structure.now) c.args.ledger.now.used c.args.ledger.now.budget c.told_at_root-told.new.ledger c.told_at_root-told.result c.told_at_root-told.ensures.budget c.args.ledger.now.in_budget c.told_at_root-told.new.ledger.in_budget (root-outcome c.args.problem.now c.args.structure.now c.logic-logic.result (the_formula c.formula-formula.result.now) (c.args.ledger.now.budget - c.args.ledger.now.used) c.told_at_root-told.new.ledger c.told_at_root-told.result (c.logic-logic.ensures ∙ ap (λ s. s.logic) c.setting.ensures.setting) c.formula-formula.ensures.formula (c.told_at_root-told.ensures.told (the_formula c.formula-formula.result.now) c.in_ok-short.ensures))

pub returns-clause-spent : goal.returns-clause-spent
returns-clause-spent c = λ e. outcome-spent (is_true c.args.problem.now c.args.structure.now) (ways c.args.problem.now c.args.structure.now) (c.args.ledger.now.budget - c.args.ledger.now.used) c.told_at_root-told.new.ledger c.told_at_root-told.result (root-outcome c.args.problem.now c.args.structure.now c.logic-logic.result (the_formula c.formula-formula.result.now) (c.args.ledger.now.budget - c.args.ledger.now.used) c.told_at_root-told.new.ledger c.told_at_root-told.result (c.logic-logic.ensures ∙ ap (λ s. s.logic) c.setting.ensures.setting) c.formula-formula.ensures.formula (c.told_at_root-told.ensures.told (the_formula c.formula-formula.result.now) c.in_ok-short.ensures)) (sym c.judged_of.ensures ∙ same-judged _ _ e)

pub returns-clause-steps : goal.returns-clause-steps
returns-clause-steps c = λ e. outcome-steps (is_true c.args.problem.now c.args.structure.now) (ways c.args.problem.now c.args.structure.now) c.args.ledger.now.used c.args.ledger.now.budget c.told_at_root-told.new.ledger c.told_at_root-told.result c.args.ledger.now.in_budget (root-outcome c.args.problem.now c.args.structure.now c.logic-logic.result (the_formula c.formula-formula.result.now) (c.args.ledger.now.budget - c.args.ledger.now.used) c.told_at_root-told.new.ledger c.told_at_root-told.result (c.logic-logic.ensures ∙ ap (λ s. s.logic) c.setting.ensures.setting) c.formula-formula.ensures.formula (c.told_at_root-told.ensures.told (the_formula c.formula-formula.result.now) c.in_ok-short.ensures)) (sym c.judged_of.ensures ∙ same-judged _ _ e)

pub returns-clause-underived : goal.returns-clause-underived
returns-clause-underived c = λ e. outcome-refutes c.args.problem.now c.args.structure.now (c.args.ledger.now.budget - c.args.ledger.now.used) c.told_at_root-told.new.ledger c.told_at_root-told.result c.formula-formula.ensures.well c.requires.fits (root-outcome c.args.problem.now c.args.structure.now c.logic-logic.result (the_formula c.formula-formula.result.now) (c.args.ledger.now.budget - c.args.ledger.now.used) c.told_at_root-told.new.ledger c.told_at_root-told.result (c.logic-logic.ensures ∙ ap (λ s. s.logic) c.setting.ensures.setting) c.formula-formula.ensures.formula (c.told_at_root-told.ensures.told (the_formula c.formula-formula.result.now) c.in_ok-short.ensures)) (sym c.judged_of.ensures ∙ same-judged _ _ e)

pub returns-clause-never_accepted : goal.returns-clause-never_accepted
returns-clause-never_accepted c = λ e. outcome-never c.args.problem.now c.args.structure.now (c.args.ledger.now.budget - c.args.ledger.now.used) c.told_at_root-told.new.ledger c.told_at_root-told.result c.formula-formula.ensures.well c.requires.fits (root-outcome c.args.problem.now c.args.structure.now c.logic-logic.result (the_formula c.formula-formula.result.now) (c.args.ledger.now.budget - c.args.ledger.now.used) c.told_at_root-told.new.ledger c.told_at_root-told.result (c.logic-logic.ensures ∙ ap (λ s. s.logic) c.setting.ensures.setting) c.formula-formula.ensures.formula (c.told_at_root-told.ensures.told (the_formula c.formula-formula.result.now) c.in_ok-short.ensures)) (sym c.judged_of.ensures ∙ same-judged _ _ e)

pub returns-clause-counted : goal.returns-clause-counted
returns-clause-counted c = root-answer c.args.problem.now c.args.structure.now c.logic-logic.result (the_formula c.formula-formula.result.now) (left c.args.ledger.now) c.told_at_root-told.new.ledger c.told_at_root-told.result c.judged_of.result (c.logic-logic.ensures ∙ ap (λ s. s.logic) c.setting.ensures.setting) c.formula-formula.ensures.formula c.judged_of.ensures (c.told_at_root-told.ensures.told (the_formula c.formula-formula.result.now) c.in_ok-short.ensures)

pub short_formula-requires : goal.short_formula-requires
short_formula-requires c = let most = few-levels c.args.problem.now _ c.formula-formula.ensures.well c.formula-formula.ensures.formula in omega (arith, most)

pub elements_before-requires : goal.elements_before-requires
elements_before-requires c = let most = few-levels c.args.problem.now _ c.formula-formula.ensures.well c.formula-formula.ensures.formula in let d = c.nesting-depth.ensures in omega (arith, most, d)

pub told_at_root-told-requires-clause-room : goal.told_at_root-told-requires-clause-room
told_at_root-told-requires-clause-room c = let most = few-levels c.args.problem.now _ c.formula-formula.ensures.well c.formula-formula.ensures.formula in let d = c.nesting-depth.ensures in let n = c.in_ok-short.ensures.nests in let e = ap length c.as_mut_slice.ensures.value in let l = c.in_ok-env.ensures.length in omega (arith, most, d, n, e, l)

pub told_at_root-told-requires-clause-elements : goal.told_at_root-told-requires-clause-elements
told_at_root-told-requires-clause-elements c = subst (λ xs. AreElements (reverse (take 256 xs))) (sym c.as_mut_slice.ensures.value) c.in_ok-env.ensures.elements
