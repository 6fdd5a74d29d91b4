-- What is told of a formula in a finite structure.
use Rattle.std.proofs.Common.{◌≡◌, List, ℕ, Bool, true, false, Option, Some, None, IsTrue, inr, ap, arith, subst, sym}
use Rattle.std.specs.Prelude.{◌+◌, ◌<◌, ◌≤◌, IfSome}
use Rattle.calculus.proofs.StructureSoundness.{false-never_accepted, false-underived}
use Rattle.calculus.proofs.StructureTextUnique.{structure_judgement-unique, structure_text-unique}
use Rattle.calculus.specs.declared.fault.StructureCause.{StructureCause}
use Rattle.calculus.specs.Problems.{is_problem}
use Rattle.calculus.specs.Structures.{Structure, is_true}
use Rattle.calculus.specs.StructureText.{IsStructureText, IsStructureJudgement, StructureVerdict, conditions, first_broken, truth_verdict, verdict_after_conditions}
use Rattle.calculus.specs.StructureText as verdict
use Rattle.calculus.specs.StructureTruth.{ways}
use Rattle.calculus.specs.Syntax.{Problem}
use Rattle.command_line.specs.Table.{Word}
use Rattle.cop_base.specs.Outside.{Files, file_in}
use Rattle.leancop_top.specs.Commands.Model.{IsJudgedStructureIn, ModelEnds, true_at_root, false_at_root, bad_structure, steps_ended}
use Rattle.leancop_top.specs.SecondFile.{HasBytes}
use Rattle.leancop_top.specs.Statuses.{status_line}
use Rattle.leancop_top.specs.declared.status.Status.TheVariants.{TrueAtRoot, FalseAtRoot, BadStructure, StepsEnded}

-- ---- the answers

judged_in : (told : Option Files) (P : Problem) (name : Word) (bytes : List ℕ) (v : StructureVerdict) → HasBytes told name bytes → IsStructureJudgement P bytes v → IsJudgedStructureIn told P name v
judged_in told P name bytes v held judged = record {
  text = bytes;
  held = held;
  judged = judged;
  unique = λ other h. structure_judgement-unique P bytes other v h judged;
}

by_truth : (P : Problem) (bytes : List ℕ) (truth b : Bool) → truth ≡ b → IsStructureJudgement P bytes (truth_verdict truth) → IsStructureJudgement P bytes (truth_verdict b)
by_truth P bytes truth b e judged = subst (λ t. IsStructureJudgement P bytes (truth_verdict t)) e judged

pub ends-true : (told : Option Files) (P : Problem) (name : Word) (steps : ℕ) (S : Structure) (bytes : List ℕ) → HasBytes told name bytes → IsStructureJudgement P bytes (truth_verdict (is_true P S)) → is_true P S ≡ true → ModelEnds told P name steps TrueAtRoot (status_line TrueAtRoot)
ends-true told P name steps S bytes held judged e =
    true_at_root (judged_in told P name bytes verdict.true_at_root held (by_truth P bytes (is_true P S) true e judged))

pub ends-false : (told : Option Files) (P : Problem) (name : Word) (steps : ℕ) (S : Structure) (bytes : List ℕ) → IsTrue (is_problem P) → HasBytes told name bytes → IsStructureJudgement P bytes (truth_verdict (is_true P S)) → is_true P S ≡ false → ModelEnds told P name steps FalseAtRoot (status_line FalseAtRoot)
ends-false told P name steps S bytes problem held judged e =
    let told_false = by_truth P bytes (is_true P S) false e judged in
    false_at_root (judged_in told P name bytes verdict.false_at_root held told_false) (false-underived P problem bytes told_false) (false-never_accepted P problem bytes told_false)

-- it is told at this line and by this cause
pub ends-bad : (told : Option Files) (P : Problem) (name : Word) (steps line k : ℕ) (cause d : StructureCause) (bytes : List ℕ) → HasBytes told name bytes → IsStructureJudgement P bytes (verdict.bad_structure k d) → line ≡ k → cause ≡ d → ModelEnds told P name steps (BadStructure line cause) (status_line (BadStructure line cause))
ends-bad told P name steps line k cause d bytes held judged at why =
    bad_structure line cause (judged_in told P name bytes (verdict.bad_structure line cause) held
    (subst (λ c. IsStructureJudgement P bytes (verdict.bad_structure line c)) (sym why) (subst (λ l. IsStructureJudgement P bytes (verdict.bad_structure l d)) (sym at) judged)))

-- the ledger began with this budget and nothing used
pub ends-steps : (told : Option Files) (P : Problem) (name : Word) (steps budget used : ℕ) (S : Structure) (bytes : List ℕ) → HasBytes told name bytes → IsStructureText P S bytes → IsStructureJudgement P bytes (truth_verdict (is_true P S)) → budget ≡ steps → used ≡ 0 → budget < used + ways P S → ModelEnds told P name steps (StepsEnded 0 steps) (status_line (StepsEnded 0 steps))
ends-steps told P name steps budget used S bytes held text judged b u more =
    steps_ended (record {
      text = bytes;
      held = held;
      stated = S;
      is_text = text;
      judged = judged;
      more = omega (arith, b, u, more);
    })

-- ---- what is decided

pub truth-not_bad : (b : Bool) (line : ℕ) (cause : StructureCause) → truth_verdict b ≡ verdict.bad_structure line cause → ⊥
truth-not_bad true line cause e = absurd (cc)
truth-not_bad false line cause e = absurd (cc)

-- the verdict on a structure without a broken condition is its truth
pub judged-truth : (P : Problem) (S : Structure) (bytes : List ℕ) → IsStructureText P S bytes → first_broken (conditions P S) ≡ None → IsStructureJudgement P bytes (truth_verdict (is_true P S))
judged-truth P S bytes text sound = inr (record {
  value = S;
  text = text;
  verdict = sym (ap (verdict_after_conditions P S) sound);
})

pub same-status : (line k : ℕ) (cause d : StructureCause) → verdict.bad_structure k d ≡ verdict.bad_structure line cause → BadStructure line cause ≡ BadStructure k d
same-status line k cause d e = cc

-- a text states one structure, so the number of its ways is one
pub same-ways : (P : Problem) (S T : Structure) (bytes : List ℕ) (steps : ℕ) → IsStructureText P S bytes → IsStructureText P T bytes → steps < ways P S → ways P T ≤ steps → ⊥
same-ways P S T bytes steps s t more enough =
    absurd (omega (arith, subst (λ X. steps < ways P X) (structure_text-unique P S T bytes s t) more, enough))

same-some : (a b : List ℕ) (o : Option (List ℕ)) → o ≡ Some a → o ≡ Some b → b ≡ a
same-some a b o h k = cc

-- the bytes of a file that is held
pub same-bytes : (told : Option Files) (files : Files) (name : Word) (a b : List ℕ) → told ≡ Some files → file_in files name ≡ Some a → HasBytes told name b → b ≡ a
same-bytes told files name a b t held h =
    same-some a b (file_in files name) held (subst (λ o. IfSome o (λ fs. file_in fs name ≡ Some b)) t h)
