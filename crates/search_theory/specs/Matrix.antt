-- The matrix of a first-order problem as the search has it, and its index by symbol and sign.
use Rattle.std.specs.Prelude.{◌≡◌, ℕ, suc, List, [], ◌∷◌, ◌++◌, map, Bool, ◌&&◌, ◌==◌, if◌then◌else◌}
use Rattle.std.specs.List.{list_all, AllByRecursion}
use Rattle.calculus.specs.declared.sign.Sign.{Sign}
use Rattle.calculus.specs.declared.sign.Sign.TheVariants.{F}
use Rattle.calculus.specs.declared.sign.Side.{Side}
use Rattle.calculus.specs.Syntax.{Problem}
use Rattle.calculus.specs.Equality.{sign_eq}
use Rattle.calculus.specs.Clauses.{selections}
use Rattle.store_theory.specs.Patterns.{PatternAtom, Template}
use Rattle.store_theory.specs.Templates.{IsTemplateOf}

-- a clause of the matrix: its selection and its template
pub record MatrixClause : Type 0 where
  pub selection : List Side
  pub template : Template

-- one template for each selection, in order
pub record IsTemplateMatrix (P : Problem) (m : List MatrixClause) : Type 0 where
  pub in_order : map (λ (c : MatrixClause). c.selection) m ≡ selections P.formula F
  pub templates : AllByRecursion (λ (c : MatrixClause). IsTemplateOf P c.selection c.template) m

-- all literals of the clause have sign F: it may be the start of a tableau
abbrev pub all_shown : Template → Bool
all_shown t = list_all (λ (a : PatternAtom). sign_eq a.sign F) t.literals

-- a literal of the matrix, by its clause and its place there
pub record MatrixPlace : Type 0 where
  pub clause : ℕ
  pub literal : ℕ

abbrev pub is_about : ℕ → Sign → PatternAtom → Bool
is_about symbol sign a = a.symbol == symbol && sign_eq a.sign sign

-- the literals with this symbol and sign among those of clause k, the first of which has the place j
abbrev pub places_among : ℕ → Sign → ℕ → ℕ → List PatternAtom → List MatrixPlace
places_among symbol sign k j [] = []
places_among symbol sign k j (a ∷ xs) = (if is_about symbol sign a then record { clause = k; literal = j } ∷ [] else []) ++ places_among symbol sign k (suc j) xs

abbrev pub clause_places : ℕ → Sign → ℕ → List MatrixClause → List MatrixPlace
clause_places symbol sign k [] = []
clause_places symbol sign k (c ∷ cs) = places_among symbol sign k 0 c.template.literals ++ clause_places symbol sign (suc k) cs

-- the literals with this symbol and sign, by clause and then by place
abbrev pub places : List MatrixClause → ℕ → Sign → List MatrixPlace
places m symbol sign = clause_places symbol sign 0 m
