-- Going back over points: what the last point has seen, the point before it has; and points that go because a goal that stood at them
-- already cannot be closed.
use Rattle.std.proofs.Common.{◌≡◌, ◌≤◌, ℕ, List, [], ◌∷◌, ◌++◌, min, true, Bool, IsTrue, refl, sym, ◌∙◌, ap, subst, Some, slice_get, inl, inr, arith, append_assoc, reverse}
use Rattle.std.specs.List.{AllByRecursion}
use Rattle.calculus.specs.Choices.{Choice}
use Rattle.calculus.specs.Syntax.{Problem}
use Rattle.store_theory.specs.Stores.{Store}
use Rattle.search_theory.specs.Exploring.{BeginsWith, BeginsWithOne, behind}
use Rattle.search_theory.specs.Jumps.{AreSolvedBehind, ChoicePoint}
use Rattle.search_theory.specs.Matrix.{MatrixClause}
use Rattle.search_theory.specs.Searching.{IsSearch}
use Rattle.search_theory.specs.States.{CellGoal, IsStateOf, State}
use Rattle.search_theory.specs.DeadEnds.{is_not_empty}
use Rattle.search_theory.proofs.JumpLaws.{LeadsNowhere, LeadsOn, cannot-pruned, nowhere-cannot, search-jump, solved-on}
use Rattle.search_theory.specs.Closing.{CannotClose}
use Rattle.connection_search.specs.Exploring.{ArePointsFrom, IsExploring, IsSearched, IsSpentAt, IsStack, traced}
use Rattle.connection_search.specs.GoingBack.{HandsDown}
use Rattle.search_tree.specs.Points.{IsPoint}
use Rattle.search_tree.specs.Seeing.{SeeMore, no_goal}
use Rattle.search_tree.specs.declared.point.Point.{Point}
use Rattle.search_tree.specs.declared.tree.Goal.{Goal}
use Rattle.search_tree.specs.declared.tree.Step.{Step}
use Rattle.connection_search.proofs.StandingLaws.{first-seeing, reverse-seeing, stack-seen, stands-all}

-- ---- what was seen is handed down

lower-on : (P : Problem) (d low n : ℕ) (qs : List ChoicePoint) → n ≤ low → AreSolvedBehind P d low [] qs → AreSolvedBehind P d n [] qs
lower-on P d low n qs l h = solved-on P d low n [] [] qs l (same qs) h
  where
    same : (rs : List ChoicePoint) → AllByRecursion (LeadsOn P d n [] []) rs
    same [] = tt
    same (r ∷ rs) = ((λ k b s x. x), same rs)

-- the last point has nothing left to try
pub spent-down : (P : Problem) (m : List MatrixClause) (base d : ℕ) (s : Store) (steps : List Step) (goals : List Goal) (p : Point) (points : List Point) (later : List (List Choice)) (begun used : ℕ) (left : Bool) → IsSpentAt P m base d s steps goals p points later begun used left → HandsDown P m base d s steps goals (min no_goal p.lowest) points later begun used left
spent-down P m base d s steps goals p points later begun used left h = record { below = h.below; are = h.rest; solved = h.solved.1; searched = h.searched }

-- the last of the points below gets it
pub handed-down : (P : Problem) (m : List MatrixClause) (base d : ℕ) (s : Store) (steps : List Step) (goals : List Goal) (low n : ℕ) (points after : List Point) (later : List (List Choice)) (begun used : ℕ) (left : Bool) → n ≤ low → n ≤ no_goal → HandsDown P m base d s steps goals low (reverse points) later begun used left → SeeMore n points after → IsExploring P m base d s steps goals after later begun used left
handed-down P m base d s steps goals low n points after later begun used left l small h more = record {
  pending = h.below;
  points = subst (λ ps. IsStack P m base d s steps goals [] ps h.below) (sym (reverse-seeing n points after more)) (by (reverse points) h.are (lower-on P d low n (traced P m base d s steps goals (reverse points) h.below h.are) l h.solved));
  searched = h.searched;
}
  where
    by : (ps : List Point) (are : ArePointsFrom P m base d s steps goals ps h.below) → AreSolvedBehind P d n [] (traced P m base d s steps goals ps h.below are) → IsStack P m base d s steps goals [] (first-seeing n ps) h.below
    by [] are solved = record { are = are; solved = tt }
    by (q ∷ ps) (c, untried, g, below, e, point, before, rest) solved =
        -- the condition of the point is that of one that has seen more
        let same : min n q.lowest ≡ min no_goal (min n q.lowest) = omega (arith, small) in
        stack-seen P m base d s steps goals n q ps h.below (c, untried, g, below, e, point, before, rest) (
          (λ k. solved.0 (omega (arith, same, k))),
          subst (λ x. AreSolvedBehind P d x (behind c untried) (traced P m base d s steps goals ps below rest)) same solved.1,
        )

-- ---- points that go

nowhere-lower : (P : Problem) (d n low : ℕ) (c : List Choice) (xs : List Choice) (qs : List ChoicePoint) → low ≤ n → AllByRecursion (LeadsNowhere P d n c) qs → AllByRecursion (LeadsOn P d low (behind c xs) []) qs
nowhere-lower P d n low c xs [] l h = tt
nowhere-lower P d n low c xs (q ∷ qs) l h = ((λ k b s begins. absurd (h.0 (omega (arith, k, l)) b s (begins-behind-one c xs b begins))), nowhere-lower P d n low c xs qs l h.1)
  where
    begins-behind-one : (c xs b : List Choice) → BeginsWithOne (behind c xs) b → BeginsWith c b
    begins-behind-one c [] b k = absurd k
    begins-behind-one c (x ∷ xs) b (inl (more, e)) = (x ∷ more, e ∙ append_assoc c (x ∷ []) more)
    begins-behind-one c (x ∷ xs) b (inr k) = begins-behind-one c xs b k

all-begin : (c xs : List Choice) → AllByRecursion (BeginsWith c) (behind c xs)
all-begin c [] = tt
all-begin c (x ∷ xs) = ((x ∷ [], refl), all-begin c xs)

-- a goal that stood at the point q already cannot be closed there: all that is pending on q goes
pub down-jumped : (P : Problem) (m : List MatrixClause) (base d : ℕ) (s : Store) (steps : List Step) (goals : List Goal) (low j : ℕ) (q : Point) (points : List Point) (later : List (List Choice)) (begun used : ℕ) → (h : HandsDown P m base d s steps goals low (q ∷ points) later begun used true) → ((c : List Choice) (untried : List Choice) (x : CellGoal) → IsPoint P m base d s steps goals q c untried x → (Q : State) × (g : CellGoal) × IsTrue (is_not_empty c) × IsStateOf P d c Q × (slice_get Q.growth.all_goals j ≡ Some g) × CannotClose P d Q g) → min low q.lowest ≤ j → HandsDown P m base d s steps goals (min low q.lowest) points later begun used true
down-jumped P m base d s steps goals low j q points later begun used h cannot l = by h.below h.are h.solved h.searched
  where
    by : (pending : List (List Choice)) (are : ArePointsFrom P m base d s steps goals (q ∷ points) pending) → AreSolvedBehind P d low [] (traced P m base d s steps goals (q ∷ points) pending are) → IsSearched P d (pending ++ later) begun used true → HandsDown P m base d s steps goals (min low q.lowest) points later begun used true
    by pending (c, untried, x, below, e, point, before, rest) solved searched =
        let (Q, g, n, state, at, never) = cannot c untried x point in
        let qs = traced P m base d s steps goals points below rest in
        let nowhere = nowhere-cannot P d j c Q g qs n state at never (stands-all P m base d s steps goals points below rest) in
        record {
          below = below;
          are = rest;
          solved = solved-on P d (min low q.lowest) (min low q.lowest) (behind c untried) [] qs (omega arith) (nowhere-lower P d j (min low q.lowest) c untried qs l nowhere) solved.1;
          searched = record {
            spent = searched.spent;
            search = search-jump P d searched.spent c (behind c untried) (below ++ later) (cannot-pruned P d c Q g n state (j, at) never) (all-begin c untried) (subst (λ xs. IsSearch P d searched.spent xs true) (ap (λ xs. xs ++ later) e ∙ append_assoc (behind c untried) below later) searched.search);
            from = searched.from;
            count = searched.count;
          };
        }
