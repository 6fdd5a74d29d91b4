-- What the text of a structure proves: where it makes the formula false at the root, no derivation derives the problem.
use Rattle.std.proofs.Common.{◌≡◌, ℕ, List, Bool, true, false, inl, inr, Option, Some, None, IsTrue, refl, sym, ◌∙◌, ap}
use Rattle.std.proofs.lemmas.Bool.{true≢false, false≢true}
use Rattle.calculus.specs.Syntax.{Problem}
use Rattle.calculus.specs.Problems.{is_problem}
use Rattle.calculus.specs.Structures.{Structure, is_structure, is_true}
use Rattle.calculus.specs.Soundness.{HasNoDerivation, IsNeverAccepted}
use Rattle.calculus.specs.StructureText.{Condition, conditions, first_broken, IsStructureText, StructureVerdict, false_at_root, bad_structure, truth_verdict, verdict_after_conditions, structure_verdict, IsStructureJudgement}
use Rattle.calculus.proofs.StructureTextLaws.{unbroken-structure}
use Rattle.calculus.proofs.SoundnessLaws.{refuted-underived, refuted-never_accepted}

-- ---- a verdict on truth is that of a structure of the problem's setting

-- a structure that a text states, and of which no condition is broken
pub read-structure : (P : Problem) (S : Structure) (bytes : List ℕ) → IsStructureText P S bytes → first_broken (conditions P S) ≡ None → IsTrue (is_structure P S)
read-structure P S bytes text unbroken = (unbroken-structure P S text.printable).0 unbroken

-- and its verdict is the truth of the formula at the root
pub structure-verdict : (P : Problem) (S : Structure) (bytes : List ℕ) → IsStructureText P S bytes → IsTrue (is_structure P S) → structure_verdict P S ≡ truth_verdict (is_true P S)
structure-verdict P S bytes text structure = ap (verdict_after_conditions P S) ((unbroken-structure P S text.printable).1 structure)

-- the structure that bytes state, where their judgement is a truth value
pub record IsRead (P : Problem) (bytes : List ℕ) (truth : Bool) : Type 0 where
  pub structure : Structure
  pub text : IsStructureText P structure bytes
  pub fits : IsTrue (is_structure P structure)
  pub value : is_true P structure ≡ truth

abbrev is_bad : StructureVerdict → Bool
is_bad (bad_structure line cause) = true
is_bad _ = false

abbrev is_false : StructureVerdict → Bool
is_false false_at_root = true
is_false _ = false

truth-good : (b : Bool) → is_bad (truth_verdict b) ≡ false
truth-good true = refl
truth-good false = refl

truth-same : (a b : Bool) → truth_verdict a ≡ truth_verdict b → a ≡ b
truth-same true true e = refl
truth-same false false e = refl
truth-same true false e = absurd (false≢true (ap is_false e))
truth-same false true e = absurd (true≢false (ap is_false e))

pub judged-read : (P : Problem) (bytes : List ℕ) (truth : Bool) → IsStructureJudgement P bytes (truth_verdict truth) → IsRead P bytes truth
judged-read P bytes truth (inl wrong) = absurd (false≢true (sym (truth-good truth) ∙ ap is_bad wrong.verdict))
judged-read P bytes truth (inr x) = by (first_broken (conditions P x.value)) refl x.verdict
  where
    by : (o : Option Condition) → first_broken (conditions P x.value) ≡ o → truth_verdict truth ≡ verdict_after_conditions P x.value (first_broken (conditions P x.value)) → IsRead P bytes truth
    by None e v = record {
      structure = x.value;
      text = x.text;
      fits = read-structure P x.value bytes x.text e;
      value = sym (truth-same truth (is_true P x.value) (v ∙ ap (verdict_after_conditions P x.value) e));
    }
    by (Some c) e v = absurd (false≢true (sym (truth-good truth) ∙ ap is_bad (v ∙ ap (verdict_after_conditions P x.value) e)))

-- ---- what false at the root proves

-- no derivation that is printable for the problem derives it
pub false-underived : (P : Problem) → IsTrue (is_problem P) → (bytes : List ℕ) → IsStructureJudgement P bytes false_at_root → HasNoDerivation P
false-underived P problem bytes judged = let r = judged-read P bytes false judged in refuted-underived P problem r.structure r.fits r.value

-- no bytes are accepted for the problem, in either version of the text
pub false-never_accepted : (P : Problem) → IsTrue (is_problem P) → (bytes : List ℕ) → IsStructureJudgement P bytes false_at_root → IsNeverAccepted P
false-never_accepted P problem bytes judged = let r = judged-read P bytes false judged in refuted-never_accepted P problem r.structure r.fits r.value
