-- The other literals of an extension's clause, looked at before their cells are built.
use Rattle.std.specs.Prelude.{◌≡◌, ◌⊎◌, ◌≤◌, ◌+◌, ℕ, List, length, Option, Some, slice_get, remove}
use Rattle.store_theory.specs.Patterns.{PatternAtom, Template}
use Rattle.store_theory.specs.Stores.{Store}
use Rattle.store_theory.specs.Systems.{CellAtom}
use Rattle.search_theory.specs.Matrix.{MatrixClause}
use Rattle.search_theory.specs.Uncopied.{HasNoReductionOver, IsRepeatedOver, goal_like}
use Rattle.search_tree.specs.Ahead.{HasNoHope}

-- nothing of the path may close the goal that the literal gives, and the path has room for no extension within d, or for one and none has
-- hope
pub record IsLostOver (m : List MatrixClause) (d : ℕ) (s : Store) (vs : List ℕ) (q : PatternAtom) (path : List CellAtom) : Type 0 where
  pub none : HasNoReductionOver s vs q path
  pub full : (d ≤ length path) ⊎ ((d ≤ length path + 1) × HasNoHope m (goal_like q path))

-- another literal of the clause than the one at the place gives a goal that is the same as one of the path, or, where a limit is looked at,
-- one that no bindings close within it
pub record IsSetAside (m : List MatrixClause) (s : Store) (t : Template) (place : ℕ) (vs : List ℕ) (path : List CellAtom) (ahead : Option ℕ) : Type 0 where
  pub number : ℕ
  pub literal : PatternAtom
  pub stands : slice_get (remove t.literals place) number ≡ Some literal
  pub why : IsRepeatedOver s vs literal path ⊎ ((d : ℕ) × (ahead ≡ Some d) × IsLostOver m d s vs literal path)
