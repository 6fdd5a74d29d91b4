-- The faults of texts of both versions.
use Rattle.std.proofs.Common.{◌≡◌, ◌≢◌, inl, ℕ, List, true, false, IsTrue, Result, Err, refl, sym, ◌∙◌, ap, subst, arith, if◌then◌else◌}
use Rattle.calculus.specs.declared.fault.CheckFault.TheVariants.{Text as InText}
use Rattle.calculus.specs.declared.fault.TextCause.{TextCause}
use Rattle.calculus.specs.declared.fault.TextCause.TheVariants as cause
use Rattle.calculus.specs.declared.version.Version.TheVariants.{Two, One}
use Rattle.calculus.specs.Syntax.{Problem}
use Rattle.calculus.specs.Problems.{are_distinct, is_problem}
use Rattle.calculus.specs.DerivationText.{is_printable}
use Rattle.calculus.specs.Judgement.{rejected}
use Rattle.calculus.specs.Versions.{IsTextIn, NumberedDerivation, lines_in, numbered_lines, numbering, stated, IsNumberedText}
use Rattle.calculus.specs.VersionJudgement.{IsVersionJudgement, IsWrongTable, is_version_one, IsWrongForm, IsTextFault}
use Rattle.calculus.specs.declared.version.Version.{Version}
use Rattle.calculus.proofs.VersionJudgementLaws.{version_judgement-unique}
use Rattle.calculus.proofs.VersionLaws.{numbered-unique, printable-written, stated-numbering, text_in-unique}
use Rattle.logic_rules.proofs.ProblemFacts.{kept}
use Rattle.derivation_text.specs.declared.fault.ParseFault.{ParseFault}
use Rattle.derivation_text.specs.declared.fault.ParseFault.TheVariants.{Text}
use Rattle.derivation_text.specs.Difference.{line_of_difference}
use Rattle.derivation_text.specs.Single.{AtMostOneInVersion, AtMostOneTextFault}
use Rattle.derivation_text.proofs.DifferenceLaws.{lines-differ}
use Rattle.derivation_text.proofs.NumberedFeeds.{numbered-feed}

-- ---- at most one

judged : (P : Problem) (bytes : List ℕ) (line : ℕ) (why : TextCause) → IsTextFault P bytes line why → IsVersionJudgement P bytes (rejected line (InText why))
judged P bytes line why f = inl (why, refl, f)

pub one-fault : (P : Problem) → IsTrue (are_distinct P.symbols) → (bytes : List ℕ) → AtMostOneTextFault P bytes
one-fault P distinct bytes m n why other f g =
    let e = version_judgement-unique P distinct bytes (rejected m (InText why)) (rejected n (InText other)) (judged P bytes m why f) (judged P bytes n other g) in
    let a : m ≡ n = cc e in
    let b : why ≡ other = cc e in
    (a, b)

pub one-text : (P : Problem) → IsTrue (are_distinct P.symbols) → (bytes : List ℕ) → AtMostOneInVersion P bytes
one-text P distinct bytes v w d e t u = text_in-unique P distinct v w d e bytes t u

-- ---- by the version

in-form : (z : Version) (P : Problem) (bytes : List ℕ) (line : ℕ) (why : TextCause) → (if is_version_one bytes then One else Two) ≡ z → IsWrongForm z P bytes line why → IsTextFault P bytes line why
in-form z P bytes line why e f = inl (subst (λ v. IsWrongForm v P bytes line why) (sym e) f)

pub wrong-one : (P : Problem) (bytes : List ℕ) (line : ℕ) (why : TextCause) → is_version_one bytes ≡ true → IsWrongForm One P bytes line why → IsTextFault P bytes line why
wrong-one P bytes line why one f = in-form One P bytes line why (ap (λ b. if b then One else Two) one) f

pub wrong-two : (P : Problem) (bytes : List ℕ) (line : ℕ) (why : TextCause) → is_version_one bytes ≡ false → IsWrongForm Two P bytes line why → IsTextFault P bytes line why
wrong-two P bytes line why two f = in-form Two P bytes line why (ap (λ b. if b then One else Two) two) f

-- ---- the table

-- a derivation numbered anew
pub same-stated : (x y : NumberedDerivation) → y ≡ numbering (stated x) → stated y ≡ stated x
same-stated x y e = ap stated e ∙ stated-numbering (stated x)

pub numbered-again : (x y : NumberedDerivation) → y ≡ numbering (stated x) → y ≡ numbering (stated y)
numbered-again x y e = e ∙ ap numbering (sym (same-stated x y e))

pub again-printable : (P : Problem) (x y : NumberedDerivation) → IsTrue (is_printable P (stated x)) → y ≡ numbering (stated x) → IsTrue (is_printable P (stated y))
again-printable P x y h e = subst (λ d. IsTrue (is_printable P d)) (sym (same-stated x y e)) h

pub again-text : (P : Problem) (x y : NumberedDerivation) (text : List ℕ) → y ≡ numbering (stated x) → IsTextIn Two P (stated y) text → IsTextIn Two P (stated x) text
again-text P x y text e t = subst (λ d. IsTextIn Two P d text) (same-stated x y e) t

-- numbers whose text is that of the derivation that they state
pub in-order_by_text : (P : Problem) → IsTrue (is_problem P) → (x : NumberedDerivation) (bytes text : List ℕ) → IsNumberedText P x bytes → IsTextIn Two P (stated x) text → bytes ≡ text → x ≡ numbering (stated x)
in-order_by_text P w x bytes text t u e = numbered-unique P (kept P w).distinct x (numbering (stated x)) t.printable (printable-written P (stated x) u.printable) (sym t.text ∙ e ∙ u.text)

pub wrong-table : (P : Problem) → IsTrue (is_problem P) → (bytes text : List ℕ) (x : NumberedDerivation) (line : ℕ) → IsNumberedText P x bytes → IsTextIn Two P (stated x) text → line ≡ line_of_difference 1 bytes text → bytes ≢ text
    → IsWrongTable P bytes line cause.Table
wrong-table P w bytes text x line t u at other =
    let ls = numbered_lines P x in
    let ms = lines_in Two P (stated x) in
    let differ = lines-differ 1 ls ms (numbered-feed P w x t.printable) (numbered-feed P w (numbering (stated x)) (printable-written P (stated x) u.printable)) in
    record {
      numbers = x;
      states = t;
      other = λ v. other (v.text ∙ sym u.text);
      place = at ∙ (λ i. line_of_difference 1 (t.text i) (u.text i)) ∙ differ ∙ omega arith;
      cause = refl;
    }

-- a fault by the answer that tells it
pub told-table : {A : Type 0} (P : Problem) (bytes : List ℕ) (m line : ℕ) (c why : TextCause) → ◌≡◌ {A = Result A ParseFault} (Err (Text m c)) (Err (Text line why)) → IsWrongTable P bytes m c → IsWrongTable P bytes line why
told-table P bytes m line c why e f =
    let a : m ≡ line = cc e in
    let b : c ≡ why = cc e in
    record { numbers = f.numbers; states = f.states; other = f.other; place = sym a ∙ f.place; cause = sym b ∙ f.cause }
