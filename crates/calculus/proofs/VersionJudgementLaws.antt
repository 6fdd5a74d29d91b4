-- Bytes have at most one judgement over both versions of the text.
use Rattle.std.proofs.Common.{◌≡◌, ℕ, List, [], ◌∷◌, Bool, true, false, IsTrue, sym, ◌∙◌, ap, inl, inr, subst, if◌then◌else◌}
use Rattle.std.proofs.lemmas.Bool.{true≢false}
use Rattle.calculus.specs.declared.version.Version.{Version}
use Rattle.calculus.specs.declared.version.Version.TheVariants.{One, Two}
use Rattle.calculus.specs.declared.fault.CheckFault.TheVariants.{Text as InText}
use Rattle.calculus.specs.declared.fault.TextCause.{TextCause}
use Rattle.calculus.specs.declared.fault.TextCause.TheVariants as cause
use Rattle.calculus.specs.Syntax.{Problem}
use Rattle.calculus.specs.Problems.{are_distinct}
use Rattle.calculus.specs.Derivations.{Derivation, first_sequent}
use Rattle.calculus.specs.Judgement.{Verdict, accepted, rejected}
use Rattle.calculus.specs.Versions.{NumberedDerivation, stated, numbering, derivation_texts, IsTextIn, numbered_texts, IsNumberedText}
use Rattle.calculus.specs.VersionJudgement.{is_version_one, text_causes, IsWrongForm, first_difference, step_line_in, verdict_in, IsVersionJudgement}
use Rattle.calculus.proofs.SequentLaws.{accepted_at_iff_derives}
use Rattle.calculus.proofs.VerdictLaws.{verdict_from-rejected}
use Rattle.calculus.proofs.FirstWrongLaws.{first-wrong-unique}
use Rattle.calculus.proofs.VersionLaws.{stated-numbering, numbered-unique, printable-written, text_in-unique}

-- ---- which version bytes are of

one-version : (P : Problem) (d : Derivation) (bytes : List ℕ) → IsTextIn One P d bytes → is_version_one bytes ≡ true
one-version P d bytes t = ap is_version_one t.text

numbered-version : (P : Problem) (x : NumberedDerivation) (bytes : List ℕ) → IsNumberedText P x bytes → is_version_one bytes ≡ false
numbered-version P x bytes t = ap is_version_one t.text

abbrev form_of : List ℕ → Version
form_of bytes = if is_version_one bytes then One else Two

in-form : (bytes : List ℕ) (one : Bool) → is_version_one bytes ≡ one → form_of bytes ≡ (if one then One else Two)
in-form bytes one e = ap (λ b. if b then One else Two) e

form-unique : (z : Version) (P : Problem) (bytes : List ℕ) (m n : ℕ) (b c : TextCause) → IsWrongForm z P bytes m b → IsWrongForm z P bytes n c → (m ≡ n) × (b ≡ c)
form-unique One P bytes m n b c f g = first-wrong-unique (derivation_texts One P) (text_causes One) bytes m n b c f g
form-unique Two P bytes m n b c f g = first-wrong-unique (numbered_texts P) (text_causes Two) bytes m n b c f g

-- a text of version 2 is that of the numbered form
numbered-text : (P : Problem) (d : Derivation) (bytes : List ℕ) → IsTextIn Two P d bytes → IsNumberedText P (numbering d) bytes
numbered-text P d bytes t = record { printable = printable-written P d t.printable; text = t.text }

-- ---- judgements by cases on what the bytes are

record ByForm (P : Problem) (bytes : List ℕ) (v : Verdict) : Type 0 where
  line : ℕ
  why : TextCause
  wrong : IsWrongForm (form_of bytes) P bytes line why
  verdict : v ≡ rejected line (InText why)

record ByTable (P : Problem) (bytes : List ℕ) (v : Verdict) : Type 0 where
  numbers : NumberedDerivation
  states : IsNumberedText P numbers bytes
  other : ¬ IsTextIn Two P (stated numbers) bytes
  verdict : v ≡ rejected (first_difference P numbers) (InText cause.Table)

record BySteps (P : Problem) (bytes : List ℕ) (v : Verdict) : Type 0 where
  version : Version
  derivation : Derivation
  text : IsTextIn version P derivation bytes
  verdict : v ≡ verdict_in version P derivation

data Ways (P : Problem) (bytes : List ℕ) (v : Verdict) : Type 0 where
  by_form : ByForm P bytes v → Ways P bytes v
  by_table : ByTable P bytes v → Ways P bytes v
  by_steps : BySteps P bytes v → Ways P bytes v

judgement-ways : (P : Problem) (bytes : List ℕ) (v : Verdict) → IsVersionJudgement P bytes v → Ways P bytes v
judgement-ways P bytes accepted h = by_steps (record { version = h.version; derivation = h.derivation; text = h.text; verdict = sym ((accepted_at_iff_derives P h.derivation (step_line_in h.version h.derivation)).1 h.derives) })
judgement-ways P bytes (rejected line fault) h = by h
  where
    by : IsVersionJudgement P bytes (rejected line fault) → Ways P bytes (rejected line fault)
    by (inl (why, is, inl g)) = by_form (record { line = line; why = why; wrong = g; verdict = ap (rejected line) is })
    by (inl (why, is, inr g)) = by_table (record { numbers = g.numbers; states = g.states; other = g.other; verdict = λ i. rejected (g.place i) ((is ∙ ap InText g.cause) i) })
    by (inr g) = by_steps (record { version = g.version; derivation = g.derivation; text = g.text; verdict = sym ((verdict_from-rejected P g.derivation.names (first_sequent P ∷ []) g.derivation.steps (step_line_in g.version g.derivation) line fault).1 g.fails) })

-- ---- no two of these together

clash-numbers : (P : Problem) (bytes : List ℕ) (v : Verdict) → ByForm P bytes v → (x : NumberedDerivation) → IsNumberedText P x bytes → ⊥
clash-numbers P bytes v f x t =
    let wrong = subst (λ z. IsWrongForm z P bytes f.line f.why) (in-form bytes false (numbered-version P x bytes t)) f.wrong in
    wrong.faulty.no_text x t

clash-form : (P : Problem) (bytes : List ℕ) (v w : Verdict) → ByForm P bytes v → BySteps P bytes w → ⊥
clash-form P bytes v w f g = by g.version g.text
  where
    by : (z : Version) → IsTextIn z P g.derivation bytes → ⊥
    by One t =
        let wrong = subst (λ z. IsWrongForm z P bytes f.line f.why) (in-form bytes true (one-version P g.derivation bytes t)) f.wrong in
        wrong.faulty.no_text g.derivation t
    by Two t = clash-numbers P bytes v f (numbering g.derivation) (numbered-text P g.derivation bytes t)

one-numbered : (P : Problem) → IsTrue (are_distinct P.symbols) → (bytes : List ℕ) (x y : NumberedDerivation) → IsNumberedText P x bytes → IsNumberedText P y bytes → x ≡ y
one-numbered P distinct bytes x y t u = numbered-unique P distinct x y t.printable u.printable (sym t.text ∙ u.text)

clash-table : (P : Problem) → IsTrue (are_distinct P.symbols) → (bytes : List ℕ) (v w : Verdict) → ByTable P bytes v → BySteps P bytes w → ⊥
clash-table P distinct bytes v w f g = by g.version g.text
  where
    by : (z : Version) → IsTextIn z P g.derivation bytes → ⊥
    by One t = true≢false (sym (one-version P g.derivation bytes t) ∙ numbered-version P f.numbers bytes f.states)
    by Two t =
        let same = ap stated (one-numbered P distinct bytes f.numbers (numbering g.derivation) f.states (numbered-text P g.derivation bytes t)) ∙ stated-numbering g.derivation in
        f.other (subst (λ e. IsTextIn Two P e bytes) (sym same) t)

ways-unique : (P : Problem) → IsTrue (are_distinct P.symbols) → (bytes : List ℕ) (v w : Verdict) → Ways P bytes v → Ways P bytes w → v ≡ w
ways-unique P d bytes v w (by_form f) (by_form g) =
    let same = form-unique (form_of bytes) P bytes f.line g.line f.why g.why f.wrong g.wrong in
    f.verdict ∙ (λ i. rejected (same.0 i) (InText (same.1 i))) ∙ sym g.verdict
ways-unique P d bytes v w (by_form f) (by_table g) = absurd (clash-numbers P bytes v f g.numbers g.states)
ways-unique P d bytes v w (by_form f) (by_steps g) = absurd (clash-form P bytes v w f g)
ways-unique P d bytes v w (by_table f) (by_form g) = absurd (clash-numbers P bytes w g f.numbers f.states)
ways-unique P d bytes v w (by_table f) (by_table g) = f.verdict ∙ ap (λ x. rejected (first_difference P x) (InText cause.Table)) (one-numbered P d bytes f.numbers g.numbers f.states g.states) ∙ sym g.verdict
ways-unique P d bytes v w (by_table f) (by_steps g) = absurd (clash-table P d bytes v w f g)
ways-unique P d bytes v w (by_steps f) (by_form g) = absurd (clash-form P bytes w v g f)
ways-unique P d bytes v w (by_steps f) (by_table g) = absurd (clash-table P d bytes w v g f)
ways-unique P d bytes v w (by_steps f) (by_steps g) =
    let same = text_in-unique P d f.version g.version f.derivation g.derivation bytes f.text g.text in
    f.verdict ∙ (λ i. verdict_in (same.0 i) P (same.1 i)) ∙ sym g.verdict

-- bytes have at most one judgement
pub version_judgement-unique : (P : Problem) → IsTrue (are_distinct P.symbols) → (bytes : List ℕ) (v w : Verdict) → IsVersionJudgement P bytes v → IsVersionJudgement P bytes w → v ≡ w
version_judgement-unique P distinct bytes v w f g = ways-unique P distinct bytes v w (judgement-ways P bytes v f) (judgement-ways P bytes w g)
