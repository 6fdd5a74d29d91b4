-- The matrix of the definitions, and where its literals stand.
use Rattle.std.specs.Prelude.{◌≡◌, ◌≤◌, ℕ, ◌+◌, ◌*◌, ◌==◌, List, [], ◌∷◌, length, map, slice_get, if◌then◌else◌}
use Rattle.std.specs.Option.{option_map_or}
use Rattle.calculus.specs.declared.sign.Sign.{Sign}
use Rattle.calculus.specs.declared.sign.Sign.TheVariants.{T, F}
use Rattle.search_theory.specs.Matrix as matrix
use Rattle.search_theory.specs.Matrix.{places}
use Rattle.matrix_build.specs.declared.clause.Clause.{Clause}
use Rattle.matrix_build.specs.declared.index.Place.{Place}
use Rattle.matrix_build.specs.declared.index.Places.{Places}
use Rattle.term_store.specs.TemplateView.{the_template}

abbrev pub the_clause : Clause → matrix.MatrixClause
the_clause c = record { selection = c.selection; template = the_template c.template }

abbrev pub the_place : Place → matrix.MatrixPlace
the_place p = record { clause = p.clause.0; literal = p.literal }

-- its literals have numbers of 32 bits
abbrev pub HasFewLiterals : matrix.MatrixClause → Type 0
HasFewLiterals c = length c.template.literals ≤ 8000000

-- ---- the table

abbrev pub sign_number : Sign → ℕ
sign_number F = 0
sign_number T = 1

-- the row of a symbol under a sign
abbrev pub row_of : ℕ → Sign → ℕ
row_of symbol sign = 2 * symbol + sign_number sign

abbrev pub places_at : ℕ → List Places → List matrix.MatrixPlace
places_at n rows = option_map_or (λ (row : Places). map the_place row.items.items) (slice_get rows n) []

abbrev pub if_equal : ℕ → ℕ → matrix.MatrixPlace → List matrix.MatrixPlace
if_equal m n p = if m == n then p ∷ [] else []

-- the table has exactly the places of the clauses
pub record IsIndex (rows : List Places) (m : List matrix.MatrixClause) : Type 0 where
  pub exact : (symbol : ℕ) (sign : Sign) → places_at (row_of symbol sign) rows ≡ places m symbol sign
