-- Goals that cannot be closed: those that are the same as one above them, and those that the limit leaves no room for.
use Rattle.std.proofs.Common.{◌≡◌, ◌⊎◌, ◌≤◌, ◌+◌, ◌∷◌, ℕ, Bool, true, List, length, IsTrue, MatchOption, None, Option, Some, slice_get, inl, inr, arith, refl, subst, sym}
use Rattle.std.specs.Bool.{⊤}
use Rattle.calculus.specs.Choices.{Choice}
use Rattle.calculus.specs.Space.{Member}
use Rattle.calculus.specs.Syntax.{Problem}
use Rattle.store_theory.specs.Stores.{Solution, Solves, Store}
use Rattle.search_theory.specs.DeadEnds.{IsDead, is_not_empty}
use Rattle.search_theory.proofs.JumpLaws.{cannot-pruned, repeated-cannot}
use Rattle.search_theory.proofs.LookAheadLaws.{full-lost, nearly-lost, none-reduces}
use Rattle.search_theory.specs.Closing.{IsCloseable}
use Rattle.search_theory.proofs.PruningLaws.{search-pruned}
use Rattle.search_theory.specs.Matrix.{MatrixClause}
use Rattle.search_theory.specs.Searching.{IsSearch}
use Rattle.search_theory.specs.States.{CellGoal, goal_at}
use Rattle.search_tree.specs.Ahead.{HasNoHope, IsLost}
use Rattle.search_tree.specs.GivenUp.{HasLost, IsGivenUp, IsRuledOut, LooksAhead}
use Rattle.search_tree.specs.Pruning.{IsPruned}
use Rattle.search_tree.specs.Running.{IsMatrixOf, StandsFor, TreeStands}
use Rattle.search_tree.specs.Sameness.{AnyRepeated, IsRepeated}
use Rattle.search_tree.specs.Trees.{AreGoals, IsGoalAt}
use Rattle.search_tree.specs.declared.tree.Goal.{Goal}
use Rattle.search_tree.specs.declared.tree.Step.{Step}
use Rattle.search_tree.specs.declared.tree.Tree.{Tree}
use Rattle.term_store.specs.Room.{TermStore}
use Rattle.search_tree.proofs.AheadLaws.{leftmost-open}
use Rattle.search_tree.proofs.TreeLaws.{goal-at}

-- the leftmost open goal is the same as one above it
pub lost-leftmost : (P : Problem) (m : List MatrixClause) (base d : ℕ) (c : List Choice) (s : Store) (steps : List Step) (goals : List Goal) (first : Option ℕ) (n next : ℕ) → StandsFor P m base d c s steps goals first → first ≡ Some next → ((x : CellGoal) → IsGoalAt steps goals next x → IsRepeated s x) → HasLost P d c n first
lost-leftmost P m base d c s steps goals first n next (cs, y, h) e repeated =
    let w = leftmost-open steps goals first next y.open_goals h.tree.open_goals e in
    let (z, on, there) = goal-at steps goals y.all_goals next w.at.goal h.tree.goals w.at.stands in
    let (j, a, path, same) = repeated z there in
    record {
      state = record { store = s; choices = cs; growth = y };
      is_state = h.running.state;
      number = next;
      goal = z;
      stands = on;
      later = inr (next, e, omega arith);
      cannot = repeated-cannot P d (record { store = s; choices = cs; growth = y }) z j a path same;
    }

-- a goal from the number n on is
pub lost-repeated : (P : Problem) (m : List MatrixClause) (base d : ℕ) (c : List Choice) (s : Store) (steps : List Step) (goals : List Goal) (first : Option ℕ) (n : ℕ) → StandsFor P m base d c s steps goals first → ((xs : List CellGoal) → AreGoals steps goals goals xs → AnyRepeated s n xs) → HasLost P d c n None
lost-repeated P m base d c s steps goals first n (cs, y, h) repeated =
    let (i, z, l, on, (j, a, path, same)) = repeated y.all_goals h.tree.goals in
    record {
      state = record { store = s; choices = cs; growth = y };
      is_state = h.running.state;
      number = i;
      goal = z;
      stands = on;
      later = inl l;
      cannot = repeated-cannot P d (record { store = s; choices = cs; growth = y }) z j a path same;
    }

-- no bindings close the goal within the limit
pub lost-cannot : (P : Problem) (m : List MatrixClause) (base d : ℕ) (c : List Choice) (s : Store) (steps : List Step) (goals : List Goal) (first : Option ℕ) (n leftmost goal : ℕ) (at : Goal) → IsMatrixOf P m → StandsFor P m base d c s steps goals first → first ≡ Some leftmost → leftmost ≤ goal → slice_get goals goal ≡ Some at → ((x : CellGoal) → IsGoalAt steps goals goal x → IsLost m d s x) → HasLost P d c n first
lost-cannot P m base d c s steps goals first n leftmost goal at tm (cs, y, h) e l there lost =
    let (z, on, stands) = goal-at steps goals y.all_goals goal at h.tree.goals there in
    let k = lost z stands in
    record {
      state = record { store = s; choices = cs; growth = y };
      is_state = h.running.state;
      number = goal;
      goal = z;
      stands = on;
      later = inr (leftmost, e, l);
      cannot = λ σ ground. by z k k.full σ ground.solves;
    }
  where
    by : (z : CellGoal) → IsLost m d s z → (d ≤ length z.path) ⊎ ((d ≤ length z.path + 1) × HasNoHope m z) → (σ : Solution) → Solves s σ → ¬ IsCloseable P d (goal_at σ z)
    by z k (inl full) σ solves = full-lost P d s z σ full (none-reduces s z k.none) solves
    by z k (inr (near, none)) σ solves = nearly-lost P m d s z σ tm.matrix near (none-reduces s z k.none) none solves

-- so no closed tableau begins with the list
pub lost-dropped : (P : Problem) (d : ℕ) (c : List Choice) (n : ℕ) (first : Option ℕ) → IsTrue (is_not_empty c) → HasLost P d c n first → IsPruned P d c
lost-dropped P d c n first m h = cannot-pruned P d c h.state h.goal m h.is_state (h.number, h.stands) h.cannot

-- a tree that was made and has such a goal
pub given-up : (P : Problem) (m : List MatrixClause) (base d : ℕ) (c : List Choice) (n : ℕ) (s : TermStore) (t z : Tree) → z ≡ t → StandsFor P m base d c s.store t.steps.items t.goals.items t.open → HasLost P d c n t.open → IsGivenUp P m base d c n s z
given-up P m base d c n s t z e h k = inr (inl (subst (λ (x : Tree). TreeStands P m base d c s x × HasLost P d c n x.open) (sym e) (h, k)))

-- ---- the limit that is looked at

-- where none is, the list is a dead end
pub dead-alone : (P : Problem) (d : ℕ) (c : List Choice) → IsRuledOut P d c None → IsDead P c
dead-alone P d c (inl dead) = dead
dead-alone P d c (inr (looked, pruned)) = absurd (looked refl)

-- it is looked at where it is known to be left
abbrev pub LooksWhereLeft : Option ℕ → ℕ → Bool → Type 0
LooksWhereLeft ahead d left = MatchOption ahead ⊤ (λ k. (k ≡ d) × (left ≡ true))

pub looks-ahead : (ahead : Option ℕ) (d : ℕ) (left : Bool) → LooksWhereLeft ahead d left → LooksAhead ahead d
looks-ahead None d left h = tt
looks-ahead (Some k) d left h = h.0

pub looked-left : (ahead : Option ℕ) (d : ℕ) (left : Bool) → LooksWhereLeft ahead d left → ¬ (ahead ≡ None) → left ≡ true
looked-left None d left h looked = absurd (looked refl)
looked-left (Some k) d left h looked = h.1

-- where the limit is known to be left, a list that begins no closed tableau goes
pub drop-known : (P : Problem) (d : ℕ) (spent : List Member) (c : List Choice) (ps : List (List Choice)) (l : Bool) → l ≡ true → IsPruned P d c → IsSearch P d spent (c ∷ ps) l → IsSearch P d spent ps l
drop-known P d spent c ps l e pruned h = subst (IsSearch P d spent ps) (sym e) (search-pruned P d spent c ps (subst (IsSearch P d spent (c ∷ ps)) e h) pruned)
