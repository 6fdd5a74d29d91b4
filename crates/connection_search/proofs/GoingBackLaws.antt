-- Going back over points: back at the last one, and over it where a goal that stood at it already cannot be closed.
use Rattle.std.proofs.Common.{◌≡◌, ◌⊎◌, ◌-◌, ◌<◌, ◌≤◌, ℕ, List, [], ◌∷◌, ◌++◌, Bool, true, drop, length, min, reverse, take, IsTrue, refl, sym, ◌∙◌, ap, subst, Some, slice_get, get_or, inl, inr, arith}
use Rattle.std.specs.List.{AllByRecursion}
use Rattle.std.proofs.lemmas.List.{length-append, reverse-append, take-append-drop}
use Rattle.std.proofs.lemmas.List.Sums.{sum_by-append}
use Rattle.std.proofs.lemmas.Option.{slice_get_read}
use Rattle.std.proofs.Math.Seq.{take-append_seam}
use Rattle.plain_laws.proofs.Places.{get-end, get-front, get-there, take-length, take-less}
use Rattle.plain_laws.proofs.Options.{same-some}
use Rattle.calculus.specs.Choices.{Choice}
use Rattle.calculus.specs.Syntax.{Problem}
use Rattle.search_theory.specs.Jumps.{AreSolvedBehind}
use Rattle.search_theory.specs.Matrix.{MatrixClause}
use Rattle.search_theory.specs.States.{CellGoal, IsStateOf, State}
use Rattle.search_theory.specs.DeadEnds.{is_not_empty}
use Rattle.search_theory.specs.Closing.{CannotClose}
use Rattle.store_theory.specs.Stores.{IsGood, Store, cut_at}
use Rattle.store_theory.proofs.StoreLaws.{IsGood-cut_at, cut_at-cut_at}
use Rattle.term_store.specs.StoreView.{the_mark}
use Rattle.search_tree.specs.Binding.{AreBound, ListsBound}
use Rattle.connection_search.specs.Exploring.{ArePointsFrom, IsBefore, IsSpentAt}
use Rattle.connection_search.specs.GoingBack.{GoesBack, HandsDown, IsBackFrom, IsStuckAt, Origin}
use Rattle.search_tree.specs.Points.{IsPoint}
use Rattle.search_tree.specs.Seeing.{no_goal}
use Rattle.search_tree.specs.Trees.{IsGoalAt, tree_system}
use Rattle.search_tree.specs.Weights.{weight, weight_of_all}
use Rattle.search_tree.specs.declared.point.Point.{Point}
use Rattle.search_tree.specs.declared.tree.Goal.{Goal}
use Rattle.search_tree.specs.declared.tree.Step.{Step}
use Rattle.connection_search.proofs.BindingKept.{cannot-back}
use Rattle.connection_search.proofs.DeadLaws.{live-not_empty}
use Rattle.search_tree.proofs.GrowthLaws.{goal-kept}
use Rattle.connection_search.proofs.JumpingLaws.{down-jumped, spent-down}
use Rattle.search_tree.proofs.MoveLaws.{goal-here}
use Rattle.connection_search.proofs.SpentLaws.{stands-live}
use Rattle.connection_search.proofs.StackedLaws.{mark-itself, points-back}
use Rattle.connection_search.proofs.StandingLaws.{last-of, same-goal, traced-back}
use Rattle.search_tree.proofs.TreeLaws.{goal-at}

-- ---- the last point

-- the points with the last one
last-there : (points : List Point) (n : ℕ) (q : Point) → n ≡ length points → 0 < n → slice_get points (n - 1) ≡ Some q → points ≡ take (n - 1) points ++ q ∷ []
last-there points n q e l at = by (last-of points)
  where
    by : (points ≡ []) ⊎ ((ys : List Point) × (y : Point) × (points ≡ ys ++ y ∷ [])) → points ≡ take (n - 1) points ++ q ∷ []
    by (inl none) = absurd (let k = ap length none in omega (arith, e, l, k))
    by (inr (ys, y, is)) =
        let k = ap length is in
        let w = length-append ys (y ∷ []) in
        let number : n - 1 ≡ length ys = omega (arith, e, k, w) in
        let front : take (n - 1) points ≡ ys = ap (λ i. take i points) number ∙ ap (take (length ys)) is ∙ take-append_seam ys (y ∷ []) in
        let item : y ≡ q = same-some (slice_get points (n - 1)) y q (ap (slice_get points) number ∙ ap (λ zs. slice_get zs (length ys)) is ∙ get-end ys y) at in
        is ∙ ap (λ z. ys ++ z ∷ []) item ∙ sym (ap (λ zs. zs ++ q ∷ []) front)

pub last-read : (points : List Point) (n : ℕ) (q : Point) → n ≡ length points → 0 < n → q ≡ get_or points (n - 1) q → points ≡ take (n - 1) points ++ q ∷ []
last-read points n q e l r = last-there points n q e l (slice_get_read points n (n - 1) q e (omega (arith, l)) r)

pub lighter-rest : (before after : List Point) (q : Point) → before ≡ after ++ q ∷ [] → weight_of_all after ≤ weight_of_all before
lighter-rest before after q e = let s = sum_by-append weight after (q ∷ []) in let f = ap weight_of_all e in omega (arith, s, f)

-- ---- the goal at an earlier point

at-front : (steps more : List Step) (goals others : List Goal) (i : ℕ) (x : CellGoal) → IsGoalAt steps goals i x → IsGoalAt (steps ++ more) (goals ++ others) i x
at-front steps more goals others i x h = record { goal = h.goal; stands = get-front goals others i h.goal h.stands; is_goal = goal-kept steps more goals others h.goal x h.is_goal }

at-taken : (n k : ℕ) (steps : List Step) (goals : List Goal) (i : ℕ) (x : CellGoal) → IsGoalAt (take n steps) (take k goals) i x → IsGoalAt steps goals i x
at-taken n k steps goals i x h = subst (λ xs. IsGoalAt xs goals i x) (take-append-drop n steps) (subst (λ ys. IsGoalAt (take n steps ++ drop n steps) ys i x) (take-append-drop k goals) (at-front (take n steps) (drop n steps) (take k goals) (drop k goals) i x h))

-- a goal that cannot be closed could not be closed at an older point at which it stood, where that binds what occurs in it
stuck-cannot : (P : Problem) (m : List MatrixClause) (base d : ℕ) (s : Store) (steps : List Step) (goals : List Goal) (goal : ℕ) (bound : List ℕ) (q : Point) (c untried : List Choice) (x : CellGoal) → IsStuckAt P m base d s steps goals goal bound → goal < q.goals → AreBound (cut_at (the_mark q.mark) s) bound → IsPoint P m base d s steps goals q c untried x → (Q : State) × (g : CellGoal) × IsTrue (is_not_empty c) × IsStateOf P d c Q × (slice_get Q.growth.all_goals goal ≡ Some g) × CannotClose P d Q g
stuck-cannot P m base d s steps goals goal bound q c untried x h l still point = (
  old,
  h.at_goal,
  live-not_empty P d c (stands-live P m base d c (cut_at (the_mark q.mark) s) (take q.steps steps) (take q.goals goals) (Some q.goal) (point.at.made, record { open_goals = x ∷ point.at.behind; all_goals = point.at.every; depths = point.at.depths }, point.at.at)),
  point.at.at.running.state,
  there,
  cannot-back P base d h.choices c (record { store = s; choices = h.at.made; growth = record { open_goals = h.at_goal ∷ h.at.behind; all_goals = h.at.every; depths = h.at.depths } }) (tree_system m steps goals h.at.every) (tree_system m (take q.steps steps) (take q.goals goals) point.at.every) point.at.made (record { open_goals = x ∷ point.at.behind; all_goals = point.at.every; depths = point.at.depths }) (the_mark q.mark) h.at_goal h.at.behind goal bound h.at.at.running refl h.unsolved point.good h.lists still point.at.at.running there,
)
  where
    old : State
    old = record { store = cut_at (the_mark q.mark) s; choices = point.at.made; growth = record { open_goals = x ∷ point.at.behind; all_goals = point.at.every; depths = point.at.depths } }

    there : slice_get point.at.every goal ≡ Some h.at_goal
    there =
        let n = take-length q.goals goals point.goals_within in
        let (k, at) = get-there (take q.goals goals) goal (omega (arith, l, n)) in
        let (z, on, is) = goal-at (take q.steps steps) (take q.goals goals) point.at.every goal k point.at.at.tree.goals at in
        on ∙ ap Some (same-goal steps goals goal z h.at_goal (at-taken q.steps q.goals steps goals goal z is) (goal-here P m base d h.choices s steps goals goal h.at_goal h.at))

-- ---- back at the last point

-- the last point first
last-first : (points ys : List Point) (q : Point) → points ≡ ys ++ q ∷ [] → reverse points ≡ q ∷ reverse ys
last-first points ys q e = ap reverse e ∙ reverse-append ys (q ∷ [])

good-back : (o : Origin) (s : Store) (steps : List Step) (goals : List Goal) (q : Point) (stack : List Point) → IsGood (the_mark q.mark) o.store → IsBackFrom o s steps goals (q ∷ stack) → IsGood (the_mark q.mark) s
good-back o s steps goals q stack good (inl (es, ea, eb)) = subst (IsGood (the_mark q.mark)) (sym es) good
good-back o s steps goals q stack good (inr (p, es, ea, eb, before)) = subst (IsGood (the_mark q.mark)) (sym es) (IsGood-cut_at (the_mark q.mark) (the_mark p.mark) o.store before.0.marks good)

-- what the last point has of the origin
last-good : (o : Origin) (low : ℕ) (q : Point) (stack : List Point) → HandsDown o.problem o.matrix o.base o.limit o.store o.steps o.goals low (q ∷ stack) o.later o.begun o.used true → IsGood (the_mark q.mark) o.store × AllByRecursion (IsBefore q) (q ∷ stack)
last-good o low q stack h = by h.below h.are
  where
    by : (pending : List (List Choice)) → ArePointsFrom o.problem o.matrix o.base o.limit o.store o.steps o.goals (q ∷ stack) pending → IsGood (the_mark q.mark) o.store × AllByRecursion (IsBefore q) (q ∷ stack)
    by pending (c, untried, g, below, e, point, before, rest) = (point.good, (record { marks = mark-itself (the_mark q.mark); steps = omega arith; goals = omega arith }, before))

pub going-good : (o : Origin) (goal : ℕ) (bound : List ℕ) (low : ℕ) (s : Store) (steps : List Step) (goals : List Goal) (points ys : List Point) (q : Point) → points ≡ ys ++ q ∷ [] → GoesBack o goal bound low s steps goals points → IsGood (the_mark q.mark) s
going-good o goal bound low s steps goals points ys q e h =
    let first = last-first points ys q e in
    good-back o s steps goals q (reverse ys) (last-good o low q (reverse ys) (subst (λ ps. HandsDown o.problem o.matrix o.base o.limit o.store o.steps o.goals low ps o.later o.begun o.used true) first h.down)).0 (subst (IsBackFrom o s steps goals) first h.back)

-- the cut of what was cut already
cut-back : (o : Origin) (s t : Store) (steps after : List Step) (goals all : List Goal) (q : Point) (stack : List Point) → t ≡ cut_at (the_mark q.mark) s → after ≡ take q.steps steps → all ≡ take q.goals goals → IsBackFrom o s steps goals (q ∷ stack) → (t ≡ cut_at (the_mark q.mark) o.store) × (after ≡ take q.steps o.steps) × (all ≡ take q.goals o.goals)
cut-back o s t steps after goals all q stack et ea eb (inl (fs, fa, fb)) = (et ∙ ap (cut_at (the_mark q.mark)) fs, ea ∙ ap (take q.steps) fa, eb ∙ ap (take q.goals) fb)
cut-back o s t steps after goals all q stack et ea eb (inr (p, fs, fa, fb, before)) = (
  et ∙ ap (cut_at (the_mark q.mark)) fs ∙ cut_at-cut_at (the_mark q.mark) (the_mark p.mark) o.store before.0.marks,
  ea ∙ ap (take q.steps) fa ∙ take-less q.steps p.steps o.steps before.0.steps,
  eb ∙ ap (take q.goals) fb ∙ take-less q.goals p.goals o.goals before.0.goals,
)

-- back at the last point, which stays
pub going-stays : (o : Origin) (goal : ℕ) (bound : List ℕ) (low : ℕ) (s t : Store) (steps after : List Step) (goals all : List Goal) (points ys : List Point) (q : Point) → points ≡ ys ++ q ∷ [] → t ≡ cut_at (the_mark q.mark) s → after ≡ take q.steps steps → all ≡ take q.goals goals → GoesBack o goal bound low s steps goals points → GoesBack o goal bound low t after all points
going-stays o goal bound low s t steps after goals all points ys q e et ea eb h =
    let first = last-first points ys q e in
    let (ft, fa, fb) = cut-back o s t steps after goals all q (reverse ys) et ea eb (subst (IsBackFrom o s steps goals) first h.back) in
    let before = (last-good o low q (reverse ys) (subst (λ ps. HandsDown o.problem o.matrix o.base o.limit o.store o.steps o.goals low ps o.later o.begun o.used true) first h.down)).1 in
    record {
      stuck = h.stuck;
      down = h.down;
      back = inr (q, ft, fa, fb, subst (AllByRecursion (IsBefore q)) (sym first) before);
    }

-- and over it
pub going-over : (o : Origin) (goal : ℕ) (bound : List ℕ) (low n : ℕ) (s t : Store) (steps after : List Step) (goals all : List Goal) (points ys : List Point) (q : Point) → points ≡ ys ++ q ∷ [] → t ≡ cut_at (the_mark q.mark) s → after ≡ take q.steps steps → all ≡ take q.goals goals → goal < q.goals → n ≡ min low q.lowest → n ≤ goal → AreBound t bound → GoesBack o goal bound low s steps goals points → GoesBack o goal bound n t after all ys
going-over o goal bound low n s t steps after goals all points ys q e et ea eb l en least still h =
    let first = last-first points ys q e in
    let down = subst (λ ps. HandsDown o.problem o.matrix o.base o.limit o.store o.steps o.goals low ps o.later o.begun o.used true) first h.down in
    let (ft, fa, fb) = cut-back o s t steps after goals all q (reverse ys) et ea eb (subst (IsBackFrom o s steps goals) first h.back) in
    let before = (last-good o low q (reverse ys) down).1 in
    record {
      stuck = h.stuck;
      down = subst (λ k. HandsDown o.problem o.matrix o.base o.limit o.store o.steps o.goals k (reverse ys) o.later o.begun o.used true) (sym en)
          (down-jumped o.problem o.matrix o.base o.limit o.store o.steps o.goals low goal q (reverse ys) o.later o.begun o.used down
          (λ c untried x point. stuck-cannot o.problem o.matrix o.base o.limit o.store o.steps o.goals goal bound q c untried x h.stuck l (subst (λ u. AreBound u bound) ft still) point)
          (omega (arith, en, least)));
      back = inr (q, ft, fa, fb, before.1);
    }

-- ---- from the beginning to the end

-- what the spent point has seen
pub down-lowest : (P : Problem) (m : List MatrixClause) (base d : ℕ) (s : Store) (steps : List Step) (goals : List Goal) (p : Point) (stack : List Point) (later : List (List Choice)) (begun used : ℕ) (left : Bool) → p.lowest ≤ no_goal → IsSpentAt P m base d s steps goals p stack later begun used left → HandsDown P m base d s steps goals p.lowest stack later begun used left
down-lowest P m base d s steps goals p stack later begun used left small h =
    let least : min no_goal p.lowest ≡ p.lowest = omega (arith, small) in
    subst (λ n. HandsDown P m base d s steps goals n stack later begun used left) least (spent-down P m base d s steps goals p stack later begun used left h)

pub going-start : (P : Problem) (m : List MatrixClause) (base d : ℕ) (s : Store) (steps : List Step) (goals : List Goal) (p : Point) (points : List Point) (later : List (List Choice)) (begun used : ℕ) (left : Bool) (bound : List ℕ) → left ≡ true → p.goals ≤ p.lowest → p.lowest ≤ no_goal → ((x : CellGoal) → IsGoalAt steps goals p.goal x → ListsBound s x bound) → IsSpentAt P m base d s steps goals p (reverse points) later begun used left → GoesBack (record { problem = P; matrix = m; base = base; limit = d; store = s; steps = steps; goals = goals; later = later; begun = begun; used = used }) p.goal bound p.lowest s steps goals points
going-start P m base d s steps goals p points later begun used left bound is l small lists h = record {
  stuck = record {
    choices = h.choices;
    at_goal = h.goal;
    at = h.at;
    unsolved = h.solved.0 (omega (arith, l, small));
    lists = lists h.goal (goal-here P m base d h.choices s steps goals p.goal h.goal h.at);
  };
  down = subst (λ b. HandsDown P m base d s steps goals p.lowest (reverse points) later begun used b) is (down-lowest P m base d s steps goals p (reverse points) later begun used left small h);
  back = inl (refl, refl, refl);
}

back-down : (o : Origin) (low : ℕ) (s : Store) (steps : List Step) (goals : List Goal) (stack : List Point) → HandsDown o.problem o.matrix o.base o.limit o.store o.steps o.goals low stack o.later o.begun o.used true → IsBackFrom o s steps goals stack → HandsDown o.problem o.matrix o.base o.limit s steps goals low stack o.later o.begun o.used true
back-down o low s steps goals stack h (inl (es, ea, eb)) = rw (es, ea, eb) h
back-down o low s steps goals stack h (inr (p, es, ea, eb, before)) = rw (es, ea, eb) (record {
  below = h.below;
  are = points-back o.problem o.matrix o.base o.limit o.store o.steps o.goals p stack h.below before h.are;
  solved = subst (AreSolvedBehind o.problem o.limit low []) (sym (traced-back o.problem o.matrix o.base o.limit o.store o.steps o.goals p stack h.below before h.are)) h.solved;
  searched = h.searched;
})

pub going-down : (o : Origin) (goal : ℕ) (bound : List ℕ) (low : ℕ) (s : Store) (steps : List Step) (goals : List Goal) (points : List Point) → GoesBack o goal bound low s steps goals points → HandsDown o.problem o.matrix o.base o.limit s steps goals low (reverse points) o.later o.begun o.used true
going-down o goal bound low s steps goals points h = back-down o low s steps goals (reverse points) h.down h.back
