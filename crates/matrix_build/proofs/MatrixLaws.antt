-- Templates for the selections in order are the matrix.
use Rattle.std.proofs.Common.{◌≡◌, suc, List, [], ◌∷◌, ◌++◌, map, IsTrue, Option, Some, None, option_and_then, refl, sym, ◌∙◌, ap, subst, arith, append_assoc}
use Rattle.std.specs.List.{AllByRecursion, Contains}
use Rattle.calculus.specs.declared.setting.Logic.{Logic}
use Rattle.calculus.specs.declared.sign.Side.{Side}
use Rattle.calculus.specs.declared.sign.Sign.TheVariants.{F}
use Rattle.calculus.specs.Clauses.{selections}
use Rattle.store_theory.specs.Patterns.{Template}
use Rattle.calculus.specs.Problems.{formula_fits}
use Rattle.calculus.specs.Syntax.{Formula, Problem}
use Rattle.search_theory.specs.Matrix.{MatrixClause, IsTemplateMatrix}
use Rattle.search_theory.specs.TemplateOf.{PatternPart, if_sides_used, pattern_part, root_pattern_spot, template_of}
use Rattle.search_theory.proofs.MatrixStart.{matrix-computed}
use Rattle.search_theory.proofs.TemplateExists.{template-exists}
use Rattle.matrix_build.specs.Fits.{AreTemplatesIfAny}
use Rattle.matrix_build.specs.MatrixView.{the_clause}
use Rattle.matrix_build.specs.Parts.{IsTemplateIfAny}
use Rattle.matrix_build.specs.declared.clause.Clause.{Clause}

there : (before : List MatrixClause) (c : MatrixClause) (cs : List MatrixClause) → Contains (map (λ (x : MatrixClause). x.selection) (before ++ c ∷ cs)) c.selection
there [] c cs = (0, omega arith, refl)
there (b ∷ bs) c cs = let h = there bs c cs in (suc h.0, omega (arith, h.1), h.2)

-- the template of a selection that has one is that one
the-template : (P : Problem) (sides : List Side) (t u : Template) → template_of P sides ≡ Some u → IsTemplateIfAny P.setting.logic P.formula sides t → t ≡ u
the-template P sides t u e h = by (pattern_part P.setting.logic P.formula F root_pattern_spot sides 0) refl e
  where
    used : (y : PatternPart) → pattern_part P.setting.logic P.formula F root_pattern_spot sides 0 ≡ Some y → (ss : List Side) → if_sides_used y ss ≡ Some u → t ≡ u
    used y f [] g = h y f ∙ cc g
    used y f (s ∷ ss) g = absurd (cc)

    by : (o : Option PatternPart) → pattern_part P.setting.logic P.formula F root_pattern_spot sides 0 ≡ o → option_and_then (λ (y : PatternPart). if_sides_used y y.sides) o ≡ Some u → t ≡ u
    by None f g = absurd (cc)
    by (Some y) f g = used y f y.sides g

pub matrix-of : (P : Problem) (m : List MatrixClause) → IsTrue (formula_fits P.setting.logic P.symbols 0 P.formula) → AreTemplatesIfAny P.setting.logic P.formula m → IsTemplateMatrix P m
matrix-of P m fits h = matrix-computed P m fits h.in_order (each [] m h.in_order h.templates)
  where
    each : (before cs : List MatrixClause) → map (λ (c : MatrixClause). c.selection) (before ++ cs) ≡ selections P.formula F → AllByRecursion (λ (c : MatrixClause). IsTemplateIfAny P.setting.logic P.formula c.selection c.template) cs → AllByRecursion (λ (c : MatrixClause). template_of P c.selection ≡ Some c.template) cs
    each before [] e g = tt
    each before (c ∷ cs) e g =
        let is_in : Contains (selections P.formula F) c.selection = subst (λ ss. Contains ss c.selection) e (there before c cs) in
        let t = template-exists P c.selection fits is_in in
        let same : c.template ≡ t.0 = the-template P c.selection c.template t.0 t.1 g.0 in
        (t.1 ∙ ap Some (sym same), each (before ++ c ∷ []) cs (ap (map (λ (x : MatrixClause). x.selection)) (append_assoc before (c ∷ []) cs) ∙ e) g.1)

-- the same for the logic and the formula that the problem tells
pub matrix-built : (P : Problem) (l : Logic) (f : Formula) (m : List MatrixClause) → l ≡ P.setting.logic → f ≡ P.formula → IsTrue (formula_fits P.setting.logic P.symbols 0 P.formula) → AreTemplatesIfAny l f m → IsTemplateMatrix P m
matrix-built P l f m e g fits h = matrix-of P m fits (subst (λ (x : Formula). AreTemplatesIfAny P.setting.logic x m) g (subst (λ (x : Logic). AreTemplatesIfAny x f m) e h))

-- ---- one clause more

pub clause-in_order : (done : List Clause) (c : Clause) (before rest all : List (List Side)) → before ≡ c.selection ∷ rest → map (λ (x : MatrixClause). x.selection) (map the_clause done) ++ before ≡ all → map (λ (x : MatrixClause). x.selection) (map the_clause (done ++ c ∷ [])) ++ rest ≡ all
clause-in_order done c before rest all e h = moved done ∙ ap (λ xs. map (λ (x : MatrixClause). x.selection) (map the_clause done) ++ xs) (sym e) ∙ h
  where
    moved : (ds : List Clause) → map (λ (x : MatrixClause). x.selection) (map the_clause (ds ++ c ∷ [])) ++ rest ≡ map (λ (x : MatrixClause). x.selection) (map the_clause ds) ++ c.selection ∷ rest
    moved [] = refl
    moved (d ∷ ds) = ap (λ xs. d.selection ∷ xs) (moved ds)

pub clause-added : (P : MatrixClause → Type 0) (done : List Clause) (c : Clause) → AllByRecursion P (map the_clause done) → P (the_clause c) → AllByRecursion P (map the_clause (done ++ c ∷ []))
clause-added P [] c h p = (p, tt)
clause-added P (d ∷ done) c h p = (h.0, clause-added P done c h.1 p)
