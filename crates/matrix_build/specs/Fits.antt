-- How large a matrix may be.
use Rattle.std.specs.Prelude.{◌≡◌, ◌≤◌, List, length, map, sum_by}
use Rattle.std.specs.List.{AllByRecursion}
use Rattle.calculus.specs.declared.setting.Logic.{Logic}
use Rattle.calculus.specs.declared.sign.Sign.TheVariants.{F}
use Rattle.calculus.specs.Clauses.{selections, clause_size}
use Rattle.calculus.specs.Syntax.{Formula, Problem}
use Rattle.search_theory.specs.Matrix.{MatrixClause}
use Rattle.matrix_build.specs.Parts.{IsTemplateIfAny}

-- at most 100,000 clauses, and at most 1,000,000 literals in all clauses together
pub record FitsMatrix (P : Problem) : Type 0 where
  pub clauses : length (selections P.formula F) ≤ 100000
  pub literals : sum_by (clause_size P) (selections P.formula F) ≤ 1000000

-- clauses for the selections in order, each with the template of its own, if that is one
pub record AreTemplatesIfAny (l : Logic) (f : Formula) (m : List MatrixClause) : Type 0 where
  pub in_order : map (λ (c : MatrixClause). c.selection) m ≡ selections f F
  pub templates : AllByRecursion (λ (c : MatrixClause). IsTemplateIfAny l f c.selection c.template) m
