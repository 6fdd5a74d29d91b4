-- The formula line of a derivation's text belongs to one formula.
use Rattle.std.proofs.Common.{◌≡◌, ◌≤◌, ℕ, List, ◌∷◌, ◌++◌, [], IsTrue, sym, ◌∙◌, arith, codes, append_assoc, leb-true, refl}
use Rattle.plain_laws.proofs.Places.{differ-at}
use Rattle.calculus.specs.declared.setting.Logic.{Logic}
use Rattle.calculus.specs.Syntax.{Formula, Problem}
use Rattle.calculus.specs.Derivations.{Derivation}
use Rattle.calculus.specs.DerivationText.{setting_text}
use Rattle.calculus.specs.Measures.{nesting}
use Rattle.calculus.specs.Versions.{IsTextIn}
use Rattle.calculus.specs.declared.version.Version.{Version}
use Rattle.calculus.specs.declared.version.Version.TheVariants.{One, Two}
use Rattle.calculus.specs.Problems.{formula_fits, is_problem}
use Rattle.calculus.specs.Text.{formula_text}
use Rattle.calculus.specs.FirstWrong.{line_bytes}
use Rattle.logic_rules.proofs.ProblemFacts.{kept}
use Rattle.formula_text.proofs.FormulaTexts.{formula-split}
use Rattle.formula_text.proofs.TermTexts.{cancel}

-- two formulas, each behind the same bytes and before a line feed
same-line : (P : Problem) → IsTrue (is_problem P) → (l : Logic) (f : Formula) (r s : List ℕ) → IsTrue (formula_fits l P.symbols 0 f) → line_bytes (codes "formula " ++ formula_text P.symbols 0 P.formula) ++ r ≡ line_bytes (codes "formula " ++ formula_text P.symbols 0 f) ++ s → P.formula ≡ f
same-line P well l f r s h e =
    let k = kept P well in
    let F = formula_text P.symbols 0 P.formula in
    let G = formula_text P.symbols 0 f in
    let e1 = cancel (codes "formula ") ((F ++ (10 ∷ [])) ++ r) ((G ++ (10 ∷ [])) ++ s) e in
    let nests : nesting P.formula ≤ 1100 = leb-true (nesting P.formula) 1100 k.nests in
    let e2 = sym (append_assoc F (10 ∷ []) r) ∙ e1 ∙ append_assoc G (10 ∷ []) s in
    (formula-split P.symbols k.distinct k.symbols P.setting.logic l 0 P.formula f (10 ∷ r) (10 ∷ s) (omega arith) k.formula h refl refl e2).0

pub formula-unique : (P : Problem) → IsTrue (is_problem P) → (bytes : List ℕ) (l : Logic) (f : Formula) (d e : Derivation) → IsTrue (formula_fits l P.symbols 0 f) → IsTextIn One P d bytes → IsTextIn One (record P { formula = f }) e bytes → f ≡ P.formula
formula-unique P well bytes l f d e h t u =
    let same = sym t.text ∙ u.text in
    let e1 = cancel (line_bytes (codes "leancop derivation 1")) _ _ same in
    let e2 = cancel (line_bytes (codes "logic " ++ setting_text P.setting)) _ _ e1 in
    sym (same-line P well l f _ _ h e2)

-- in either version
pub formula-unique_in : (P : Problem) → IsTrue (is_problem P) → (bytes : List ℕ) (l : Logic) (f : Formula) (v w : Version) (d e : Derivation) → IsTrue (formula_fits l P.symbols 0 f) → IsTextIn v P d bytes → IsTextIn w (record P { formula = f }) e bytes → f ≡ P.formula
formula-unique_in P well bytes l f One One d e h t u = formula-unique P well bytes l f d e h t u
formula-unique_in P well bytes l f One Two d e h t u = absurd (differ-at _ _ 19 (sym t.text ∙ u.text) refl)
formula-unique_in P well bytes l f Two One d e h t u = absurd (differ-at _ _ 19 (sym t.text ∙ u.text) refl)
formula-unique_in P well bytes l f Two Two d e h t u =
    let same = sym t.text ∙ u.text in
    let e1 = cancel (line_bytes (codes "leancop derivation 2")) _ _ same in
    let e2 = cancel (line_bytes (codes "logic " ++ setting_text P.setting)) _ _ e1 in
    sym (same-line P well l f _ _ h e2)
