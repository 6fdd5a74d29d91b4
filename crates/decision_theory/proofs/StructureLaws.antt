-- Truth values that refute a propositional problem make a finite structure with one world and one element that does.
use Rattle.std.proofs.Common.{◌≡◌, [], true, false, IsTrue, sym, ◌∙◌, subst}
use Rattle.calculus.specs.declared.setting.Logic.TheVariants.{Classical}
use Rattle.calculus.specs.Syntax.{Problem}
use Rattle.calculus.specs.Problems.{formula_fits, is_problem}
use Rattle.calculus.specs.Propositional.{IsPropositional}
use Rattle.calculus.specs.Structures.{is_true_at}
use Rattle.calculus.proofs.SoundnessLaws.{fits-problem}
use Rattle.calculus.proofs.TautologyLaws.{structure_by, structure-by, truth-by}
use Rattle.decision_theory.specs.Decision.{IsRefuted, HasCounterexample}

pub counterexample_where_refuted : (P : Problem) → IsTrue (is_problem P) → IsPropositional P → IsRefuted P → HasCounterexample P
counterexample_where_refuted P problem h r =
    let S = structure_by r.values P in
    let fits : formula_fits Classical P.symbols 0 P.formula ≡ true = subst (λ l. formula_fits l P.symbols 0 P.formula ≡ true) h.classical (fits-problem P problem) in
    let there : is_true_at Classical S P.formula [] 0 ≡ false = truth-by r.values P P.formula h.formula fits ∙ r.false_there in
    record { structure = S; fits = structure-by r.values P h.classical; false_there = subst (λ l. is_true_at l S P.formula [] 0 ≡ false) (sym h.classical) there }
