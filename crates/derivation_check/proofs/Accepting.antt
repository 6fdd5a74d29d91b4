-- What the verdict on a text says of the derivation that is handed on, and of what is told.
use Rattle.std.proofs.Common.{◌≡◌, ℕ, List, ◌∷◌, [], Result, Err, IsTrue, refl, sym, ◌∙◌, ap, inl, inr, subst}
use Rattle.calculus.specs.declared.fault.CheckFault.{CheckFault}
use Rattle.calculus.specs.declared.fault.CheckFault.TheVariants.{Text as InText}
use Rattle.calculus.specs.declared.fault.TextCause.{TextCause}
use Rattle.calculus.specs.declared.version.Version.{Version}
use Rattle.calculus.specs.Calculus.{Derives}
use Rattle.calculus.specs.Derivations.{Derivation, first_sequent}
use Rattle.calculus.specs.Judgement as judgement
use Rattle.calculus.specs.Judgement.{accepted, rejected}
use Rattle.calculus.specs.Problems.{are_distinct, is_problem}
use Rattle.calculus.specs.Syntax.{Problem}
use Rattle.calculus.specs.Versions.{IsTextIn}
use Rattle.calculus.specs.VersionJudgement.{IsTextFault, IsVersionJudgement, step_line_in, verdict_in}
use Rattle.calculus.proofs.SequentLaws.{accepted_at_iff_derives}
use Rattle.calculus.proofs.VerdictLaws.{verdict_from-rejected}
use Rattle.calculus.proofs.VersionJudgementLaws.{version_judgement-unique}
use Rattle.logic_rules.proofs.ProblemFacts.{kept}
use Rattle.derivation_check.specs.Only.{IsOnlyVersionJudgement}
use Rattle.derivation_check.specs.declared.acceptance.AcceptFault.{AcceptFault}
use Rattle.derivation_check.specs.declared.acceptance.AcceptFault.TheVariants as answer
use Rattle.derivation_check.specs.declared.verdict.Verdict as program
use Rattle.derivation_check.specs.VerdictView.{the_verdict}

-- ---- judgements

-- a verdict on the derivation whose text the bytes are
pub judged-in : (P : Problem) (bytes : List ℕ) (v : judgement.Verdict) (version : Version) (d : Derivation) → IsTextIn version P d bytes → v ≡ verdict_in version P d → IsVersionJudgement P bytes v
judged-in P bytes accepted version d text e = record {
  version = version;
  derivation = d;
  text = text;
  derives = (accepted_at_iff_derives P d (step_line_in version d)).0 (sym e);
}
judged-in P bytes (rejected line fault) version d text e = inr (record {
  version = version;
  derivation = d;
  text = text;
  fails = (verdict_from-rejected P d.names (first_sequent P ∷ []) d.steps (step_line_in version d) line fault).0 (sym e);
})

-- the first wrong line of a text
pub judged-fault : (P : Problem) (bytes : List ℕ) (line : ℕ) (cause : TextCause) → IsTextFault P bytes line cause → IsVersionJudgement P bytes (rejected line (InText cause))
judged-fault P bytes line cause h = inl (cause, refl, h)

pub judged-fault-as : (P : Problem) (bytes : List ℕ) (line at : ℕ) (cause why : TextCause) → line ≡ at → cause ≡ why → IsTextFault P bytes at why → IsVersionJudgement P bytes (rejected line (InText cause))
judged-fault-as P bytes line at cause why place is h =
    subst (λ n. IsVersionJudgement P bytes (rejected n (InText cause))) (sym place) (subst (λ k. IsVersionJudgement P bytes (rejected at (InText k))) (sym is) (judged-fault P bytes at why h))

pub only-one : (P : Problem) → IsTrue (are_distinct P.symbols) → (bytes : List ℕ) (v : judgement.Verdict) → IsVersionJudgement P bytes v → IsOnlyVersionJudgement P bytes v
only-one P distinct bytes v h = record { judged = h; alone = λ w g. version_judgement-unique P distinct bytes w v g h }

-- a text of a derivation that derives is accepted
pub accepted-in : (P : Problem) → IsTrue (is_problem P) → (version : Version) (d : Derivation) (bytes : List ℕ) → IsTextIn version P d bytes → Derives P d → IsOnlyVersionJudgement P bytes accepted
accepted-in P well version d bytes text derives =
    only-one P (kept P well).distinct bytes accepted (record { version = version; derivation = d; text = text; derives = derives })

-- ---- what the program tells

-- a verdict on the derivation whose text the bytes are is their one judgement
pub only : (P : Problem) → IsTrue (is_problem P) → (bytes : List ℕ) (version : Version) (d : Derivation) (v w : program.Verdict) → IsTextIn version P d bytes → the_verdict v ≡ verdict_in version P d → v ≡ w → IsOnlyVersionJudgement P bytes (the_verdict w)
only P well bytes version d v w text judged is =
    only-one P (kept P well).distinct bytes (the_verdict w) (judged-in P bytes (the_verdict w) version d text (sym (ap the_verdict is) ∙ judged))

pub accepted-derives : (P : Problem) (version : Version) (d : Derivation) (v w : program.Verdict) → the_verdict v ≡ verdict_in version P d → v ≡ w → the_verdict w ≡ accepted → Derives P d
accepted-derives P version d v w judged is e = (accepted_at_iff_derives P d (step_line_in version d)).0 (sym judged ∙ ap the_verdict is ∙ e)

abbrev rejection : {A : Type 0} → ℕ → CheckFault → Result A AcceptFault
rejection line fault = Err (answer.Rejected line fault)

-- what is told of a rejection is told of the line and fault that it holds
pub of-rejection : {A : Type 0} (P : Problem) (bytes : List ℕ) (line : ℕ) (fault : CheckFault) (r : Result A AcceptFault) → r ≡ Err (answer.Rejected line fault) → IsOnlyVersionJudgement P bytes (rejected line fault) → (l : ℕ) (f : CheckFault) → r ≡ Err (answer.Rejected l f) → IsOnlyVersionJudgement P bytes (rejected l f)
of-rejection P bytes line fault r is h l f e =
    let same_line : line ≡ l = cc in
    let same_fault : fault ≡ f = cc in
    subst (λ n. IsOnlyVersionJudgement P bytes (rejected n f)) same_line (subst (λ k. IsOnlyVersionJudgement P bytes (rejected line k)) same_fault h)

-- the first wrong line of a text is told
pub of-text : {A : Type 0} (P : Problem) → IsTrue (is_problem P) → (bytes : List ℕ) (line at : ℕ) (cause why : TextCause) → line ≡ at → cause ≡ why → IsTextFault P bytes at why → (l : ℕ) (f : CheckFault) → rejection {A = A} line (InText cause) ≡ rejection {A = A} l f → IsOnlyVersionJudgement P bytes (rejected l f)
of-text P well bytes line at cause why place is h l f e =
    of-rejection P bytes line (InText cause) (Err (answer.Rejected line (InText cause))) refl
    (only-one P (kept P well).distinct bytes (rejected line (InText cause)) (judged-fault-as P bytes line at cause why place is h)) l f e
