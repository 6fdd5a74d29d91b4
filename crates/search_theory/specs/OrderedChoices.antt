-- The choices of each goal in their order: its reductions from the parent on, and then its extensions as the matrix has them.
use Rattle.std.specs.Prelude.{ℕ, suc, List, [], ◌∷◌, ◌++◌, length, Bool, not, ◌&&◌, ◌==◌, Option, Some, None, slice_get, nat_lt, if◌then◌else◌}
use Rattle.calculus.specs.declared.sign.Sign.{Sign}
use Rattle.calculus.specs.declared.sign.Side.{Side}
use Rattle.calculus.specs.Equality.{sign_eq}
use Rattle.calculus.specs.Kinds.{other}
use Rattle.calculus.specs.Choices.{Choice, reduction, extension}
use Rattle.store_theory.specs.Systems.{CellAtom}
use Rattle.store_theory.specs.Patterns.{PatternAtom}
use Rattle.search_theory.specs.Matrix.{MatrixClause, MatrixPlace, is_about}
use Rattle.search_theory.specs.States.{CellGoal}

-- the same symbol with the other sign
abbrev pub meets : CellAtom → CellAtom → Bool
meets g a = not (sign_eq g.sign a.sign) && g.symbol == a.symbol

-- the reductions by these ancestors, the first of which has the number k
abbrev pub reductions_from : ℕ → CellAtom → List CellAtom → List Choice
reductions_from k g [] = []
reductions_from k g (a ∷ path) = (if meets g a then reduction k ∷ [] else []) ++ reductions_from (suc k) g path

-- the extensions by the literals of one clause with this symbol and sign, the first literal having the place j
abbrev pub extensions_among : ℕ → Sign → List Side → ℕ → List PatternAtom → List Choice
extensions_among symbol sign sides j [] = []
extensions_among symbol sign sides j (a ∷ xs) = (if is_about symbol sign a then extension sides j ∷ [] else []) ++ extensions_among symbol sign sides (suc j) xs

-- those by all clauses
abbrev pub extensions : ℕ → Sign → List MatrixClause → List Choice
extensions symbol sign [] = []
extensions symbol sign (c ∷ cs) = extensions_among symbol sign c.selection 0 c.template.literals ++ extensions symbol sign cs

abbrev pub selection_of : Option MatrixClause → List Side
selection_of None = []
selection_of (Some c) = c.selection

-- the extension by a literal of the matrix
abbrev pub extension_at : List MatrixClause → MatrixPlace → Choice
extension_at m p = extension (selection_of (slice_get m p.clause)) p.literal

-- the choices of a goal within the limit d, in their order
abbrev pub choices_at : List MatrixClause → ℕ → CellGoal → List Choice
choices_at m d g = reductions_from 1 g.literal g.path ++ (if nat_lt (length g.path) d then extensions g.literal.symbol (other g.literal.sign) m else [])
