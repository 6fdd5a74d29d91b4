-- Looking ahead at the path limit: a goal whose path has as many goals as the limit is closed by a reduction, so its path has its symbol
-- with the other sign.
use Rattle.std.specs.Prelude.{◌≡◌, ℕ, ◌+◌, ◌*◌, ◌%◌, List, ◌∷◌, not, Some, slice_get, remove, IsTrue}
use Rattle.std.specs.Int.{bit_at}
use Rattle.calculus.specs.declared.sign.Sign.{Sign}
use Rattle.calculus.specs.declared.sign.Sign.TheVariants.{T, F}
use Rattle.calculus.specs.Equality.{sign_eq}
use Rattle.store_theory.specs.Patterns.{PatternAtom, Template}
use Rattle.store_theory.specs.Stores.{Store}
use Rattle.store_theory.specs.Systems.{CellAtom}
use Rattle.search_theory.specs.Matrix.{MatrixClause, MatrixPlace}
use Rattle.search_theory.specs.States.{CellGoal}
use Rattle.search_theory.specs.Steps.{Clash}

-- an atom of the path has this symbol and the other sign
pub record IsAnswered (path : List CellAtom) (symbol : ℕ) (sign : Sign) : Type 0 where
  pub number : ℕ
  pub atom : CellAtom
  pub on_path : slice_get path number ≡ Some atom
  pub signs : IsTrue (not (sign_eq sign atom.sign))
  pub symbols : symbol ≡ atom.symbol

-- the two atoms are opposite by no solution: they have one sign, or two symbols, or arguments that clash
pub data IsApart (s : Store) (a b : CellAtom) : Type 0 where
  by_sign : IsTrue (sign_eq a.sign b.sign) → IsApart s a b
  by_symbol : ¬ (a.symbol ≡ b.symbol) → IsApart s a b
  by_args : Clash s a.args b.args → IsApart s a b

-- the goal is opposite to no goal of its path
abbrev pub HasNoReduction : Store → CellGoal → Type 0
HasNoReduction s g = (k : ℕ) (a : CellAtom) → slice_get g.path k ≡ Some a → IsApart s g.literal a

-- an extension of the goal by the template's literal at the place gives a goal whose path lacks its symbol with the other sign
pub record IsHopeless (t : Template) (place : ℕ) (g : CellGoal) : Type 0 where
  pub number : ℕ
  pub literal : PatternAtom
  pub stands : slice_get (remove t.literals place) number ≡ Some literal
  pub lacking : ¬ IsAnswered (g.literal ∷ g.path) literal.symbol literal.sign

-- the same, at a place of the matrix
pub record IsHopelessAt (m : List MatrixClause) (p : MatrixPlace) (g : CellGoal) : Type 0 where
  pub clause : MatrixClause
  pub stands : slice_get m p.clause ≡ Some clause
  pub hopeless : IsHopeless clause.template p.literal g

-- ---- masks: 64 bits, one for each row of the index by symbol and sign, which rows share where there are more

abbrev pub bit_of : ℕ → Sign → ℕ
bit_of symbol F = 2 * symbol % 64
bit_of symbol T = (2 * symbol + 1) % 64

-- the bit of each atom of the path is set
abbrev pub MarksPath : ℕ → List CellAtom → Type 0
MarksPath mask path = (k : ℕ) (a : CellAtom) → slice_get path k ≡ Some a → bit_at mask (bit_of a.symbol a.sign) ≡ 1
