-- A literal of a clause over variables of a store, of which no cells were built: what the store's solutions say of it and of a path.
use Rattle.std.specs.Prelude.{◌≡◌, ℕ, List, [], Some, slice_get, IsTrue}
use Rattle.calculus.specs.Equality.{sign_eq}
use Rattle.store_theory.specs.Patterns.{PatternAtom, patterns_tree}
use Rattle.store_theory.specs.Stores.{Solution, Solves, Store}
use Rattle.store_theory.specs.Systems.{CellAtom}
use Rattle.store_theory.specs.Templates.{pattern_literal, pattern_terms}
use Rattle.search_theory.specs.States.{CellGoal, literal_by, terms_by, values_by}

-- each solution gives the literal what it gives one atom of the path
pub record IsRepeatedOver (s : Store) (vs : List ℕ) (q : PatternAtom) (path : List CellAtom) : Type 0 where
  pub number : ℕ
  pub atom : CellAtom
  pub on_path : slice_get path number ≡ Some atom
  pub same : (σ : Solution) → Solves s σ → pattern_literal (values_by σ vs) q ≡ literal_by σ atom

-- no solution makes the literal opposite to the atom: they have one sign, or two symbols, or arguments that differ by each
pub data IsApartOver (s : Store) (vs : List ℕ) (q : PatternAtom) (a : CellAtom) : Type 0 where
  by_sign : IsTrue (sign_eq q.sign a.sign) → IsApartOver s vs q a
  by_symbol : ¬ (q.symbol ≡ a.symbol) → IsApartOver s vs q a
  by_args : ((σ : Solution) → Solves s σ → ¬ (terms_by σ a.args ≡ pattern_terms (values_by σ vs) (patterns_tree q.args))) → IsApartOver s vs q a

-- it is opposite to no atom of the path
abbrev pub HasNoReductionOver : Store → List ℕ → PatternAtom → List CellAtom → Type 0
HasNoReductionOver s vs q path = (k : ℕ) (a : CellAtom) → slice_get path k ≡ Some a → IsApartOver s vs q a

-- a goal below this path with the literal's symbol and sign: all that a row of the index is found by
abbrev pub goal_like : PatternAtom → List CellAtom → CellGoal
goal_like q path = record { literal = record { sign = q.sign; symbol = q.symbol; args = []; label = [] }; path = path }
