-- Choice points of the program: the state in which each was made, and the choices that were not tried yet.
use Rattle.std.specs.Prelude.{◌≡◌, ◌≤◌, ◌<◌, ℕ, suc, List, [], ◌∷◌, ◌++◌, Option, None, Some, ⊤, drop, take, length, map, nat_lt, IsTrue}
use Rattle.calculus.specs.Choices.{Choice, reduction}
use Rattle.calculus.specs.Kinds.{other}
use Rattle.store_theory.specs.Stores.{IsGood, Store, cut_at}
use Rattle.calculus.specs.Syntax.{Problem}
use Rattle.matrix_build.specs.MatrixView.{the_place}
use Rattle.search_theory.specs.Matrix.{MatrixClause, MatrixPlace, places}
use Rattle.search_theory.specs.OrderedChoices.{extension_at, reductions_from}
use Rattle.search_theory.specs.States.{CellGoal}
use Rattle.term_store.specs.StoreView.{the_mark}
use Rattle.search_tree.specs.Running.{ExtendsBy, IsAtGoal, ReducesBy}
use Rattle.search_tree.specs.Trees.{IsPath}
use Rattle.search_tree.specs.declared.point.Move.{Move}
use Rattle.search_tree.specs.declared.point.Move.TheVariants.{Reduce, Extend}
use Rattle.search_tree.specs.declared.point.Point.{Point}
use Rattle.search_tree.specs.declared.tree.Goal.{Goal}
use Rattle.search_tree.specs.declared.tree.Step.{Step}

-- the literals that may extend the goal, in the order of the index
abbrev pub row_of : List MatrixClause → CellGoal → List MatrixPlace
row_of m g = places m g.literal.symbol (other g.literal.sign)

-- the extensions that a point still has to try: those by the places from `next` up to `end`
pub record HasExtensions (m : List MatrixClause) (d : ℕ) (p : Point) (g : CellGoal) (xs : List Choice) : Type 0 where
  pub next : p.next ≤ p.end
  pub end : p.end ≤ length (places m g.literal.symbol (other g.literal.sign))
  pub deep : 0 < p.end → IsTrue (nat_lt (length g.path) d)
  pub limit : d ≤ 201
  pub are : xs ≡ map (extension_at m) (drop p.next (take p.end (places m g.literal.symbol (other g.literal.sign))))

-- all choices that it still has to try: reductions by the ancestors behind the first `up`, then these extensions
pub record HasUntried (m : List MatrixClause) (d : ℕ) (steps : List Step) (goals : List Goal) (p : Point) (g : CellGoal) (untried : List Choice) : Type 0 where
  pub above : IsPath steps goals p.above (drop p.up g.path)
  pub depth : p.depth ≡ length g.path
  pub later : List Choice
  pub extensions : HasExtensions m d p g later
  pub are : untried ≡ reductions_from (suc p.up) g.literal (drop p.up g.path) ++ later

-- a choice point: cutting back to it gives the state in which it was made, by the choices c
pub record IsPoint (P : Problem) (m : List MatrixClause) (base d : ℕ) (s : Store) (steps : List Step) (goals : List Goal) (p : Point) (c untried : List Choice) (g : CellGoal) : Type 0 where
  pub good : IsGood (the_mark p.mark) s
  pub at : IsAtGoal P m base d c (cut_at (the_mark p.mark) s) (take p.steps steps) (take p.goals goals) p.goal g
  pub steps_within : p.steps ≤ length steps
  pub goals_within : p.goals ≤ length goals
  pub choices : HasUntried m d (take p.steps steps) (take p.goals goals) p g untried

-- the choice of a move, and what it needs
abbrev pub the_move : List MatrixClause → Move → Choice
the_move m (Reduce up ancestor) = reduction up
the_move m (Extend place) = extension_at m (the_place place)

abbrev pub IsMoveAt : List MatrixClause → ℕ → List Step → List Goal → CellGoal → Move → Type 0
IsMoveAt m d steps goals g (Reduce up ancestor) = ReducesBy steps goals g up ancestor
IsMoveAt m d steps goals g (Extend place) = ExtendsBy m d g (the_place place)

-- nothing but what was tried changed
pub record IsSamePoint (before after : Point) : Type 0 where
  pub mark : after.mark ≡ before.mark
  pub steps : after.steps ≡ before.steps
  pub goals : after.goals ≡ before.goals
  pub goal : after.goal ≡ before.goal
  pub depth : after.depth ≡ before.depth
  pub lowest : after.lowest ≡ before.lowest

-- the point is this moment
pub record IsHere (p : Point) (s : Store) (steps : List Step) (goals : List Goal) (first : Option ℕ) : Type 0 where
  pub good : IsGood (the_mark p.mark) s
  pub whole : cut_at (the_mark p.mark) s ≡ s
  pub steps_are : p.steps ≡ length steps
  pub goals_are : p.goals ≡ length goals
  pub first_is : first ≡ Some p.goal

-- ---- the next ancestor

abbrev pub as_choices : Option Move → List Choice
as_choices None = []
as_choices (Some (Reduce up ancestor)) = reduction up ∷ []
as_choices (Some (Extend place)) = []

abbrev pub IsReduction : List Step → List Goal → CellGoal → Option Move → Type 0
IsReduction steps goals g None = ⊤
IsReduction steps goals g (Some (Reduce up ancestor)) = ReducesBy steps goals g up ancestor
IsReduction steps goals g (Some (Extend place)) = ⊥

-- the reductions that were left are this one, if any, and those that are left now
pub record IsNextAncestor (steps : List Step) (goals : List Goal) (g : CellGoal) (before after : Point) (x : Option Move) : Type 0 where
  pub move : IsReduction steps goals g x
  pub above : IsPath steps goals after.above (drop after.up g.path)
  pub left : reductions_from (suc before.up) g.literal (drop before.up g.path) ≡ as_choices x ++ reductions_from (suc after.up) g.literal (drop after.up g.path)
  pub ended : x ≡ None → drop after.up g.path ≡ []
  pub rises : before.up ≤ after.up
  pub raised : ¬ (x ≡ None) → (before.up < after.up) × (before.up < length g.path)
