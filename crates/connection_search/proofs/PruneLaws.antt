-- Lists of choices that labels refute: the equations and strings of the tree's system alone, and dropping the list.
use Rattle.std.proofs.Common.{◌≡◌, ℕ, List, [], ◌++◌, Bool, true, IsTrue, refl, ◌∙◌, subst, Option, Some, append-nil, slice_get, reverse, length}
use Rattle.std.specs.List.{AllByRecursion}
use Rattle.std.proofs.lemmas.Bool.{and_from}
use Rattle.plain_laws.proofs.Places.{get-front}
use Rattle.calculus.specs.declared.setting.Logic.{Logic}
use Rattle.calculus.specs.Choices.{Choice}
use Rattle.calculus.specs.Space.{has_labels}
use Rattle.store_theory.specs.Stores.{Solution, Solves, Store}
use Rattle.calculus.specs.Syntax.{Problem}
use Rattle.store_theory.specs.Systems.{AreEqual, IsStep, NamesItsStrings, System, is_system}
use Rattle.search_theory.specs.Matrix.{MatrixClause}
use Rattle.search_theory.specs.DeadEnds.{is_not_empty}
use Rattle.search_theory.proofs.PruningLaws.{pruned-by_none}
use Rattle.search_theory.proofs.SolvingLaws.{system-parts}
use Rattle.search_tree.specs.GivenUp.{HasLost}
use Rattle.search_tree.proofs.GivenUpLaws.{drop-known, lost-dropped}
use Rattle.connection_search.proofs.StandingLaws.{points-goals, stack-cleared, stack-lost}
use Rattle.connection_search.specs.Exploring.{IsExploring, IsVisiting}
use Rattle.search_tree.specs.Pruning.{IsPruned, labels_alone}
use Rattle.search_tree.specs.Seeing.{SeeMore}
use Rattle.search_tree.specs.Running.{StandsFor}
use Rattle.search_tree.specs.Trees.{tree_system}
use Rattle.search_tree.specs.declared.point.Point.{Point}
use Rattle.search_tree.specs.declared.tree.Goal.{Goal}
use Rattle.search_tree.specs.declared.tree.Step.{Step}
use Rattle.connection_search.proofs.DecidingLaws.{strings-named}

-- ---- a part of a system

alone-fits : (s : Store) (y : System) → IsTrue (is_system s y) → IsTrue (is_system s (labels_alone y))
alone-fits s y h = let k = system-parts s y h in and_from _ _ (and_from _ _ (and_from _ _ k.equations k.strings) refl) refl

alone-named : (s : Store) (y : System) → NamesItsStrings s y → NamesItsStrings s (labels_alone y)
alone-named s y h v free (i, r, e, occurs) = h v free (i, r, get-front _ _ i r (get-front _ _ i r (subst (λ rs. slice_get rs i ≡ Some r) (append-nil _ ∙ append-nil _) e)), occurs)

-- what is tested of the tree's labels is a system that names its strings
pub alone-system : (P : Problem) (m : List MatrixClause) (base d : ℕ) (c : List Choice) (s : Store) (steps : List Step) (goals : List Goal) (first : Option ℕ) (y : System) → (h : StandsFor P m base d c s steps goals first) → y ≡ labels_alone (tree_system m steps goals h.1.all_goals) → IsTrue (is_system s y) × NamesItsStrings s y
alone-system P m base d c s steps goals first y (cs, x, at) e =
    let z = tree_system m steps goals x.all_goals in
    let named = strings-named P base d c (record { store = s; choices = cs; growth = x }) z at.running in
    rw e (alone-fits s z at.running.system.well, alone-named s z named)

-- ---- dropping the list

-- no closed tableau begins with a list whose labels no solution makes equal
pub tree-pruned : (P : Problem) (m : List MatrixClause) (base d : ℕ) (c : List Choice) (s : Store) (steps : List Step) (goals : List Goal) (first : Option ℕ) (y : System) (l : Logic) → l ≡ P.setting.logic → (h : StandsFor P m base d c s steps goals first) → y ≡ labels_alone (tree_system m steps goals h.1.all_goals) → IsTrue (has_labels P.setting.logic) → IsTrue (is_not_empty c) → ((σ : Solution) → Solves s σ → AllByRecursion (IsStep l σ) y.strings → ¬ AllByRecursion (AreEqual σ) y.equations) → IsPruned P d c
tree-pruned P m base d c s steps goals first y l el (cs, x, at) e labels n none =
    let z = tree_system m steps goals x.all_goals in
    let alone = subst (λ (w : System). (σ : Solution) → Solves s σ → AllByRecursion (IsStep P.setting.logic σ) w.strings → ¬ AllByRecursion (AreEqual σ) w.equations) e (subst (λ k. (σ : Solution) → Solves s σ → AllByRecursion (IsStep k σ) y.strings → ¬ AllByRecursion (AreEqual σ) y.equations) el none) in
    pruned-by_none P d c (record { store = s; choices = cs; growth = x }) z labels n at.running.state at.running.system (λ σ h. alone σ h.ground.solves h.steps h.equal)

-- lists that are given up where it is known that the limit is left

-- by labels
pub visit-pruned : (P : Problem) (m : List MatrixClause) (base d : ℕ) (s : Store) (steps : List Step) (goals : List Goal) (first : Option ℕ) (points after : List Point) (later : List (List Choice)) (begun used : ℕ) (left : Bool) → (v : IsVisiting P m base d s steps goals first points later begun used left) → left ≡ true → IsPruned P d v.choices → SeeMore 0 points after → IsExploring P m base d s steps goals after later begun used left
visit-pruned P m base d s steps goals first points after later begun used left v known pruned more = record {
  pending = v.pending;
  points = stack-cleared P m base d s steps goals points after v.pending more v.points.are;
  searched = record { spent = v.searched.spent; search = drop-known P d v.searched.spent v.choices (v.pending ++ later) left known pruned v.searched.search; from = v.searched.from; count = v.searched.count };
}

-- by a goal that cannot be closed
pub visit-stuck : (P : Problem) (m : List MatrixClause) (base d : ℕ) (s : Store) (steps : List Step) (goals : List Goal) (first : Option ℕ) (points : List Point) (later : List (List Choice)) (begun used : ℕ) (left : Bool) → (v : IsVisiting P m base d s steps goals first points later begun used left) → left ≡ true → HasLost P d v.choices (length goals) first → IsExploring P m base d s steps goals points later begun used left
visit-stuck P m base d s steps goals first points later begun used left v known lost = record {
  pending = v.pending;
  points = stack-lost P m base d s steps goals v.choices (length goals) first (reverse points) v.pending v.not_empty lost (points-goals P m base d s steps goals (reverse points) v.pending v.points.are) v.seen v.points;
  searched = record { spent = v.searched.spent; search = drop-known P d v.searched.spent v.choices (v.pending ++ later) left known (lost-dropped P d v.choices (length goals) first v.not_empty lost) v.searched.search; from = v.searched.from; count = v.searched.count };
}
