-- What the loop over the lines of a body keeps, and what it answers.
use Rattle.std.proofs.Common.{◌≡◌, ℕ, ◌+◌, List, [], ◌∷◌, length, drop, IsTrue, sym, ◌∙◌, ap, subst, arith, slice_get, None, Some, length-append}
use Rattle.std.proofs.lemmas.List.{length-drop}
use Rattle.calculus.specs.declared.fault.TextCause.{TextCause}
use Rattle.calculus.specs.declared.version.Version.TheVariants.{One}
use Rattle.calculus.specs.Syntax.{Problem}
use Rattle.calculus.specs.Problems.{is_problem}
use Rattle.calculus.specs.Derivations.{Derivation}
use Rattle.calculus.specs.FirstWrong.{whole_lines}
use Rattle.calculus.specs.Versions.{IsTextIn}
use Rattle.calculus.specs.VersionJudgement.{IsWrongForm}
use Rattle.derivation_text.specs.declared.body_line.Stage.{Stage}
use Rattle.derivation_text.specs.declared.body_line.Stage.TheVariants.{Ended}
use Rattle.derivation_text.specs.Body.{BodyLine, IsBodyLine, stage_after}
use Rattle.derivation_text.specs.Reading.{IsReadTo, cause_at_stage, lines_read, with_line}
use Rattle.text_lines.specs.Lines.{IsLineAt}
use Rattle.derivation_text.proofs.BodyFaults.{cause-at_stage, fault-at_end, fault-at_line, text-read}
use Rattle.derivation_text.proofs.BodySteps.{body-more, goes-on, lines-more}

pub body-step : (P : Problem) (bytes : List ℕ) (place to : ℕ) (s t : Stage) (d e : Derivation) (x : BodyLine) (l : List ℕ) (count : ℕ) → IsReadTo P bytes place s d → count ≡ length (lines_read P s d) → IsLineAt bytes place to l → IsBodyLine P.symbols l x → stage_after s x ≡ Some t → e ≡ with_line d x
    → IsReadTo P bytes to t e × (count + 1 ≡ length (lines_read P t e))
body-step P bytes place to s t d e x l count r n here is after same =
    let g = goes-on s t d x r.fits after in
    let m = ap length (lines-more P s t d x l g is.same) in
    let c : count + 1 ≡ length (lines_read P t (with_line d x)) = omega (arith, n, m, length-append (lines_read P s d) (l ∷ [])) in (
      subst (IsReadTo P bytes to t) (sym same) (body-more P bytes place to s t d x l r here is after),
      c ∙ ap (λ k. length (lines_read P t k)) (sym same),
    )

pub body-fault_at_line : (P : Problem) → IsTrue (is_problem P) → (bytes : List ℕ) (place to : ℕ) (s : Stage) (d : Derivation) (l : List ℕ) (count : ℕ) (c : TextCause) → IsReadTo P bytes place s d → count ≡ length (lines_read P s d) → IsLineAt bytes place to l
    → ((x : BodyLine) → IsBodyLine P.symbols l x → stage_after s x ≡ None) → c ≡ cause_at_stage s (Some l) → IsWrongForm One P bytes (count + 1) c
body-fault_at_line P w bytes place to s d l count c r n here none why = record {
  right_lines = length (lines_read P s d);
  faulty = fault-at_line P w bytes place to s d l r here none;
  place = ap (λ k. k + 1) n;
  cause = why ∙ ap (λ (ls : List (List ℕ)). cause_at_stage s (slice_get ls 0)) (sym here.whole) ∙ sym (cause-at_stage P bytes place s d r);
}

pub body-fault_at_end : (P : Problem) → IsTrue (is_problem P) → (bytes : List ℕ) (place : ℕ) (s : Stage) (d : Derivation) (count : ℕ) (c : TextCause) → IsReadTo P bytes place s d → count ≡ length (lines_read P s d) → whole_lines (drop place bytes) ≡ []
    → (s ≡ Ended → place ≡ length bytes → ⊥) → c ≡ cause_at_stage s None → IsWrongForm One P bytes (count + 1) c
body-fault_at_end P w bytes place s d count c r n none unfinished why = record {
  right_lines = length (lines_read P s d);
  faulty = fault-at_end P w bytes place s d r none (λ e left. unfinished e (let h = r.lines.within in let f = ap length left in omega (arith, h, f, length-drop place bytes)));
  place = ap (λ k. k + 1) n;
  cause = why ∙ ap (λ (ls : List (List ℕ)). cause_at_stage s (slice_get ls 0)) (sym none) ∙ sym (cause-at_stage P bytes place s d r);
}

pub text-at_end : (P : Problem) (bytes : List ℕ) (place : ℕ) (s : Stage) (d : Derivation) → IsReadTo P bytes place s d → s ≡ Ended → place ≡ length bytes → IsTextIn One P d bytes
text-at_end P bytes place s d r e h = text-read P bytes place d (subst (λ t. IsReadTo P bytes place t d) e r) h
