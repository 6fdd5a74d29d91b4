-- Looking ahead: goals that no bindings close within the path limit, and choices that are passed over.
use Rattle.std.specs.Prelude.{◌≡◌, ◌⊎◌, ◌+◌, ◌≤◌, ℕ, List, [], ◌∷◌, ◌++◌, length, not, Bool, true, IsTrue, Option, Some, MatchOption, ⊤, slice_get}
use Rattle.std.specs.List.{AllByRecursion}
use Rattle.calculus.specs.Choices.{Choice}
use Rattle.calculus.specs.Equality.{sign_eq}
use Rattle.calculus.specs.Kinds.{other}
use Rattle.calculus.specs.Syntax.{Problem}
use Rattle.matrix_build.specs.MatrixView.{the_place}
use Rattle.matrix_build.specs.declared.index.Place.{Place}
use Rattle.search_theory.specs.DeadEnds.{Grows}
use Rattle.search_theory.specs.Ahead.{HasNoReduction, IsHopelessAt, MarksPath}
use Rattle.search_theory.specs.Exploring.{IsIn}
use Rattle.search_theory.specs.Matrix.{MatrixClause, MatrixPlace, places}
use Rattle.search_theory.specs.OrderedChoices.{extension_at}
use Rattle.search_theory.specs.States.{CellGoal}
use Rattle.store_theory.specs.Patterns.{PatternAtom}
use Rattle.store_theory.specs.Stores.{Store}
use Rattle.store_theory.specs.Systems.{CellAtom}
use Rattle.search_tree.specs.Points.{HasExtensions, HasUntried, IsMoveAt, the_move}
use Rattle.search_tree.specs.Running.{ExtendsBy, IsAtGoal}
use Rattle.search_tree.specs.declared.point.Move.{Move}
use Rattle.search_tree.specs.declared.point.Point.{Point}
use Rattle.search_tree.specs.declared.tree.Goal.{Goal}
use Rattle.search_tree.specs.declared.tree.Step.{Step}

-- the literal at the place has the goal's symbol and the other sign
pub record MeetsPlace (m : List MatrixClause) (p : MatrixPlace) (g : CellGoal) : Type 0 where
  pub clause : MatrixClause
  pub stands : slice_get m p.clause ≡ Some clause
  pub literal : PatternAtom
  pub there : slice_get clause.template.literals p.literal ≡ Some literal
  pub signs : IsTrue (not (sign_eq g.literal.sign literal.sign))
  pub symbols : g.literal.symbol ≡ literal.symbol

-- each extension of the goal gives a goal whose path lacks its symbol with the other sign
abbrev pub HasNoHope : List MatrixClause → CellGoal → Type 0
HasNoHope m x = (p : MatrixPlace) → IsIn p (places m x.literal.symbol (other x.literal.sign)) → IsHopelessAt m p x

-- no goal above it may close the goal, and the path has room for no extension within the limit d, or for one and none has hope
pub record IsLost (m : List MatrixClause) (d : ℕ) (s : Store) (x : CellGoal) : Type 0 where
  pub none : HasNoReduction s x
  pub full : (d ≤ length x.path) ⊎ ((d ≤ length x.path + 1) × HasNoHope m x)

-- why the choice x at the goal g of the list c is passed over: no tree follows it, or it gives a goal whose path lacks its symbol with the
-- other sign, where the path of g has room for one extension at most within d, and it is known that the limit is left
abbrev pub IsPassed : Problem → List MatrixClause → ℕ → List Choice → CellGoal → Bool → Choice → Type 0
IsPassed P m d c g left x = (¬ Grows P (c ++ x ∷ [])) ⊎ ((left ≡ true) × (d ≤ length g.path + 1) × ((p : MatrixPlace) × (x ≡ extension_at m p) × IsHopelessAt m p g))

-- what comes next at a point behind choices that are passed over
pub record IsNextLeft (P : Problem) (m : List MatrixClause) (d : ℕ) (c : List Choice) (steps : List Step) (goals : List Goal) (after : Point) (g : CellGoal) (untried : List Choice) (left : Bool) (o : Option Move) : Type 0 where
  pub passed : List Choice
  pub each : AllByRecursion (IsPassed P m d c g left) passed
  pub next : MatchOption o (untried ≡ passed ++ []) (λ x. IsMoveAt m d steps goals g x × ((rest : List Choice) × (untried ≡ passed ++ the_move m x ∷ rest) × HasUntried m d steps goals after g rest))

-- at the state of the list c the leftmost open goal is g, whose literal is the atom a
pub record IsLeftmost (P : Problem) (m : List MatrixClause) (base d : ℕ) (c : List Choice) (s : Store) (a : CellAtom) (g : CellGoal) : Type 0 where
  pub steps : List Step
  pub goals : List Goal
  pub goal : ℕ
  pub at : IsAtGoal P m base d c s steps goals goal g
  pub atom : a ≡ g.literal

-- by these marks, if any, extensions of the goal may be passed over
abbrev pub MayPassBy : ℕ → CellGoal → Bool → Option ℕ → Type 0
MayPassBy d g left o = MatchOption o ⊤ (λ marks. (left ≡ true) × (d ≤ length g.path + 1) × MarksPath marks (g.literal ∷ g.path))

-- what comes next among the extensions xs behind those that are passed over
pub record IsNextPlace (P : Problem) (m : List MatrixClause) (d : ℕ) (c : List Choice) (after : Point) (g : CellGoal) (xs : List Choice) (left : Bool) (o : Option Place) : Type 0 where
  pub passed : List Choice
  pub each : AllByRecursion (IsPassed P m d c g left) passed
  pub next : MatchOption o (xs ≡ passed ++ []) (λ q. ExtendsBy m d g (the_place q) × ((rest : List Choice) × (xs ≡ passed ++ extension_at m (the_place q) ∷ rest) × HasExtensions m d after g rest))
