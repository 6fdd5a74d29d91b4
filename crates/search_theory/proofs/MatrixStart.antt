-- The matrix by computed templates, and the start of a search over all its clauses.
use Rattle.std.proofs.Common.{◌≡◌, ℕ, zero, suc, List, [], ◌∷◌, map, false, IsTrue, ap, subst, Some, arith}
use Rattle.std.specs.Prelude.{Contains}
use Rattle.std.specs.List.{AllByRecursion}
use Rattle.calculus.specs.declared.sign.Sign.TheVariants.{F}
use Rattle.calculus.specs.declared.sign.Side.{Side}
use Rattle.calculus.specs.Syntax.{Problem}
use Rattle.calculus.specs.Problems.{formula_fits}
use Rattle.calculus.specs.Clauses.{selections}
use Rattle.calculus.specs.Choices.{start}
use Rattle.calculus.proofs.SelectionLaws.{selections-rise}
use Rattle.store_theory.specs.Patterns.{Template}
use Rattle.store_theory.specs.Templates.{IsTemplateOf}
use Rattle.search_theory.specs.TemplateOf.{template_of}
use Rattle.search_theory.specs.Matrix.{MatrixClause, IsTemplateMatrix, all_shown}
use Rattle.search_theory.specs.Exploring.{behind, IsIn}
use Rattle.search_theory.specs.Searching.{IsSearch}
use Rattle.search_theory.proofs.TemplateLaws.{template_of-right}
use Rattle.search_theory.proofs.StepLaws.{no-start}
use Rattle.search_theory.specs.DeadEnds.{IsDead, refused}
use Rattle.search_theory.proofs.NextLaws.{selection-in}
use Rattle.search_theory.proofs.DeepenLaws.{starting}
use Rattle.search_theory.proofs.SearchSteps.{search-start}

-- templates that are computed for the selections in order make the matrix
pub matrix-computed : (P : Problem) (m : List MatrixClause) → IsTrue (formula_fits P.setting.logic P.symbols 0 P.formula) → map (λ (c : MatrixClause). c.selection) m ≡ selections P.formula F → AllByRecursion (λ (c : MatrixClause). template_of P c.selection ≡ Some c.template) m → IsTemplateMatrix P m
matrix-computed P m fits order computed = record { in_order = order; templates = each m computed }
  where
    each : (cs : List MatrixClause) → AllByRecursion (λ (c : MatrixClause). template_of P c.selection ≡ Some c.template) cs → AllByRecursion (λ (c : MatrixClause). IsTemplateOf P c.selection c.template) cs
    each [] h = tt
    each (c ∷ cs) h = (template_of-right P c.selection c.template fits h.0, each cs h.1)

contained-in : (xs : List (List Side)) (x : List Side) → Contains xs x → IsIn x xs
contained-in [] x (k, l, e) = absurd (omega (arith, l))
contained-in (y ∷ xs) x (zero, l, e) = (0, ap Some e)
contained-in (y ∷ xs) x (suc k, l, e) = let r = contained-in xs x (k, omega (arith, l), e) in (suc r.0, r.1)

-- the search begins with all clauses in order
pub search-start_all : (P : Problem) (d : ℕ) → IsSearch P d [] (behind [] (starting (selections P.formula F))) false
search-start_all P d = search-start P d (selections P.formula F) (selections-rise P.formula F) (λ ss (i, e, h, s). contained-in (selections P.formula F) ss (subst (Contains (selections P.formula F)) e (selection-in P i h)))

-- a clause with a literal of sign T is a dead end as a start
pub dead-start : (P : Problem) (sides : List Side) (t : Template) → IsTemplateOf P sides t → all_shown t ≡ false → IsDead P (start sides ∷ [])
dead-start P sides t h n = refused (no-start P sides t h n)
