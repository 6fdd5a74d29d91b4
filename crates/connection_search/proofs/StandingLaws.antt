-- What the points on the stack tell of goals that were not solved: a list that is given up, a new point, and points that go.
use Rattle.std.proofs.Common.{◌≡◌, ◌⊎◌, ◌<◌, ◌≤◌, ℕ, suc, List, [], ◌∷◌, ◌++◌, length, min, reverse, take, IsTrue, refl, sym, ◌∙◌, ap, ap₂, subst, Option, None, Some, slice_get, slice_set, inl, inr, arith, nat_le, leb-true, Bool, true, false}
use Rattle.std.specs.List.{AllByRecursion}
use Rattle.std.proofs.lemmas.List.{length-append, length-map, reverse-append}
use Rattle.plain_laws.proofs.Places.{take-length}
use Rattle.plain_laws.proofs.Options.{same-some}
use Rattle.store_theory.specs.Bindings.{KeepsMarks}
use Rattle.store_theory.specs.Stores.{Store, cut_at}
use Rattle.calculus.specs.Choices.{Choice}
use Rattle.calculus.specs.Syntax.{Problem}
use Rattle.store_theory.specs.Systems.{CellAtom}
use Rattle.search_theory.specs.Exploring.{behind}
use Rattle.search_theory.specs.OrderedChoices.{choices_at, extension_at}
use Rattle.search_theory.specs.Jumps.{AreSolvedBehind, ChoicePoint, IsFruitless, StandsAtPoint}
use Rattle.search_theory.specs.Matrix.{MatrixClause}
use Rattle.search_theory.specs.States.{CellGoal, name_of}
use Rattle.search_theory.proofs.BarrenLaws.{nowhere-passed}
use Rattle.search_theory.proofs.BeginningLaws.{not-empty-behind}
use Rattle.search_theory.specs.DeadEnds.{is_not_empty, Grows}
use Rattle.search_theory.proofs.JumpLaws.{LeadsNowhere, LeadsOn, cannot-solved, solved-cannot, new_point, solved-nothing, solved-on, solved-passed, solved-pushed, solved-refused, solved-seen, solved-started}
use Rattle.search_theory.proofs.SolvedLaws.{refused-unsolved}
use Rattle.term_store.specs.StoreView.{the_mark}
use Rattle.search_tree.specs.Ahead.{IsPassed}
use Rattle.connection_search.specs.Exploring.{ArePointsFrom, IsBefore, IsSpace, IsStack, choice_point, traced}
use Rattle.search_tree.specs.GivenUp.{HasLost}
use Rattle.search_tree.specs.Points.{IsHere, IsPoint}
use Rattle.search_tree.specs.Running.{IsAtGoal, IsMatrixOf, StandsFor}
use Rattle.search_tree.specs.Seeing.{HasSeen, SeeMore, no_goal, number_of, seeing, seen_after}
use Rattle.search_tree.specs.Trees.{IsGoal, IsGoalAt, IsPath, KeepsTree, atom_at, the_step}
use Rattle.search_tree.specs.declared.point.Point.{Point}
use Rattle.search_tree.specs.declared.tree.Goal.{Goal}
use Rattle.search_tree.specs.declared.tree.Step.{Step}
use Rattle.search_tree.proofs.MoveLaws.{goal-here, goal-within}
use Rattle.connection_search.proofs.StackedLaws.{points-back, points-kept}
use Rattle.search_tree.proofs.TreeLaws.{goal-at, goals-length}

-- ---- states at points

stands-point : (P : Problem) (m : List MatrixClause) (base d : ℕ) (s : Store) (steps : List Step) (goals : List Goal) (p : Point) (c untried : List Choice) (g : CellGoal) → IsPoint P m base d s steps goals p c untried g → StandsAtPoint P d (choice_point p c untried)
stands-point P m base d s steps goals p c untried g h = record {
  state = record { store = cut_at (the_mark p.mark) s; choices = h.at.made; growth = record { open_goals = g ∷ h.at.behind; all_goals = h.at.every; depths = h.at.depths } };
  is_state = h.at.at.running.state;
  goals = goals-length (take p.steps steps) (take p.goals goals) (take p.goals goals) h.at.every h.at.at.tree.goals ∙ take-length p.goals goals h.goals_within;
}

pub stands-all : (P : Problem) (m : List MatrixClause) (base d : ℕ) (s : Store) (steps : List Step) (goals : List Goal) (points : List Point) (pending : List (List Choice)) → (h : ArePointsFrom P m base d s steps goals points pending) → AllByRecursion (StandsAtPoint P d) (traced P m base d s steps goals points pending h)
stands-all P m base d s steps goals [] pending h = tt
stands-all P m base d s steps goals (p ∷ points) pending (c, untried, g, below, e, point, before, rest) = (stands-point P m base d s steps goals p c untried g point, stands-all P m base d s steps goals points below rest)

-- each point has some goal, and no more than there are
abbrev pub HasGoals : ℕ → ChoicePoint → Type 0
HasGoals n q = (0 < q.goals) × (q.goals ≤ n)

pub goals-all : (P : Problem) (m : List MatrixClause) (base d : ℕ) (s : Store) (steps : List Step) (goals : List Goal) (points : List Point) (pending : List (List Choice)) → (h : ArePointsFrom P m base d s steps goals points pending) → AllByRecursion (HasGoals (length goals)) (traced P m base d s steps goals points pending h)
goals-all P m base d s steps goals [] pending h = tt
goals-all P m base d s steps goals (p ∷ points) pending (c, untried, g, below, e, point, before, rest) = (
  ((let l = goal-within P m base d c (cut_at (the_mark p.mark) s) (take p.steps steps) (take p.goals goals) p.goal g point.at in let k = take-length p.goals goals point.goals_within in omega (arith, l, k)), point.goals_within),
  goals-all P m base d s steps goals points below rest,
)

-- ---- the same points, in a later store and tree, or back at one of them

traced-kept : (P : Problem) (m : List MatrixClause) (base d : ℕ) (s t : Store) (steps after : List Step) (goals all : List Goal) (points : List Point) (pending : List (List Choice)) (marks : KeepsMarks s t) (kept : KeepsTree steps goals after all) → (h : ArePointsFrom P m base d s steps goals points pending) → traced P m base d t after all points pending (points-kept P m base d s t steps after goals all points pending marks kept h) ≡ traced P m base d s steps goals points pending h
unfolding points-kept
traced-kept P m base d s t steps after goals all [] pending marks kept h = refl
traced-kept P m base d s t steps after goals all (p ∷ points) pending marks kept (c, untried, g, below, e, point, before, rest) = ap (λ qs. choice_point p c untried ∷ qs) (traced-kept P m base d s t steps after goals all points below marks kept rest)

pub stack-kept : (P : Problem) (m : List MatrixClause) (base d : ℕ) (s t : Store) (steps after : List Step) (goals all : List Goal) (list : List (List Choice)) (points : List Point) (pending : List (List Choice)) → KeepsMarks s t → KeepsTree steps goals after all → IsStack P m base d s steps goals list points pending → IsStack P m base d t after all list points pending
stack-kept P m base d s t steps after goals all list points pending marks kept h = record {
  are = points-kept P m base d s t steps after goals all points pending marks kept h.are;
  solved = subst (AreSolvedBehind P d no_goal list) (sym (traced-kept P m base d s t steps after goals all points pending marks kept h.are)) h.solved;
}

pub traced-back : (P : Problem) (m : List MatrixClause) (base d : ℕ) (s : Store) (steps : List Step) (goals : List Goal) (p : Point) (points : List Point) (pending : List (List Choice)) (earlier : AllByRecursion (IsBefore p) points) → (h : ArePointsFrom P m base d s steps goals points pending) → traced P m base d (cut_at (the_mark p.mark) s) (take p.steps steps) (take p.goals goals) points pending (points-back P m base d s steps goals p points pending earlier h) ≡ traced P m base d s steps goals points pending h
unfolding points-back
traced-back P m base d s steps goals p [] pending earlier h = refl
traced-back P m base d s steps goals p (q ∷ points) pending earlier (c, untried, g, below, e, point, before, rest) = ap (λ qs. choice_point q c untried ∷ qs) (traced-back P m base d s steps goals p points below earlier.1 rest)

-- ---- a list that is given up

-- no tree follows it
pub stack-refused : (P : Problem) (m : List MatrixClause) (base d : ℕ) (s : Store) (steps : List Step) (goals : List Goal) (c : List Choice) (points : List Point) (pending : List (List Choice)) → IsTrue (is_not_empty c) → ¬ Grows P c → IsStack P m base d s steps goals (c ∷ []) points pending → IsStack P m base d s steps goals [] points pending
stack-refused P m base d s steps goals c points pending n none h = record { are = h.are; solved = solved-refused P d no_goal c (traced P m base d s steps goals points pending h.are) n none h.solved }

-- its tree has a goal that cannot be closed, which came behind the goals of all points, or which the last point has seen no later
solved-lost : (P : Problem) (d low : ℕ) (c : List Choice) (n : ℕ) (first : Option ℕ) (qs : List ChoicePoint) → IsTrue (is_not_empty c) → HasLost P d c n first → AllByRecursion (StandsAtPoint P d) qs → AllByRecursion (HasGoals n) qs → ((k : ℕ) → first ≡ Some k → (q : ChoicePoint) (rest : List ChoicePoint) → qs ≡ q ∷ rest → q.lowest ≤ k) → AreSolvedBehind P d low (c ∷ []) qs → AreSolvedBehind P d low [] qs
solved-lost P d low c n first [] m h stand goals seen k = tt
solved-lost P d low c n first (q ∷ qs) m h stand goals seen k = elim h.later [
  | inl later ↦ solved-on P d low low (c ∷ []) [] (q ∷ qs) (omega arith) (each later (q ∷ qs) stand goals) k
  | inr (j, e, later) ↦ (let l = seen j e q qs refl in solved-cannot P d low h.number c h.state h.goal q qs m h.is_state h.stands h.cannot stand (omega (arith, l, later)) k)
]
  where
    each : n ≤ h.number → (rs : List ChoicePoint) → AllByRecursion (StandsAtPoint P d) rs → AllByRecursion (HasGoals n) rs → AllByRecursion (LeadsOn P d low (c ∷ []) []) rs
    each later [] s g = tt
    each later (r ∷ rs) s g = (
      (λ l b k begins. elim begins [
        | inl x ↦ absurd (cannot-solved P d r.list c s.0.state h.state h.goal h.number s.0.is_state m h.is_state (let e = s.0.goals in let w = g.0.1 in omega (arith, e, w, later)) h.stands h.cannot b k x)
        | inr x ↦ absurd x
      ]),
      each later rs s.1 g.1,
    )

last-seen : (P : Problem) (m : List MatrixClause) (base d : ℕ) (s : Store) (steps : List Step) (goals : List Goal) (points : List Point) (pending : List (List Choice)) (h : ArePointsFrom P m base d s steps goals points pending) (first : Option ℕ) → HasSeen first points → (k : ℕ) → first ≡ Some k → (q : ChoicePoint) (rest : List ChoicePoint) → traced P m base d s steps goals points pending h ≡ q ∷ rest → q.lowest ≤ k
last-seen P m base d s steps goals [] pending h first seen k e q rest is = cc is
last-seen P m base d s steps goals (p ∷ points) pending (c, untried, g, below, eq, point, before, others) None seen k e q rest is = cc e
last-seen P m base d s steps goals (p ∷ points) pending (c, untried, g, below, eq, point, before, others) (Some j) seen k e q rest is =
    let same : choice_point p c untried ≡ q = cc is in
    let number : j ≡ k = cc e in
    let low : p.lowest ≡ q.lowest = ap (λ (x : ChoicePoint). x.lowest) same in
    omega (arith, seen, number, low)

-- no point has more goals
pub points-goals : (P : Problem) (m : List MatrixClause) (base d : ℕ) (s : Store) (steps : List Step) (goals : List Goal) (points : List Point) (pending : List (List Choice)) → ArePointsFrom P m base d s steps goals points pending → AllByRecursion (λ (p : Point). p.goals ≤ length goals) points
points-goals P m base d s steps goals [] pending h = tt
points-goals P m base d s steps goals (p ∷ points) pending (c, untried, g, below, e, point, before, rest) = (point.goals_within, points-goals P m base d s steps goals points below rest)

few-traced : (P : Problem) (m : List MatrixClause) (base d : ℕ) (s : Store) (steps : List Step) (goals : List Goal) (n : ℕ) (points : List Point) (pending : List (List Choice)) → AllByRecursion (λ (p : Point). p.goals ≤ n) points → (h : ArePointsFrom P m base d s steps goals points pending) → AllByRecursion (HasGoals n) (traced P m base d s steps goals points pending h)
few-traced P m base d s steps goals n [] pending few h = tt
few-traced P m base d s steps goals n (p ∷ points) pending few (c, untried, g, below, e, point, before, rest) = (
  ((let l = goal-within P m base d c (cut_at (the_mark p.mark) s) (take p.steps steps) (take p.goals goals) p.goal g point.at in let k = take-length p.goals goals point.goals_within in omega (arith, l, k)), few.0),
  few-traced P m base d s steps goals n points below few.1 rest,
)

pub stack-lost : (P : Problem) (m : List MatrixClause) (base d : ℕ) (s : Store) (steps : List Step) (goals : List Goal) (c : List Choice) (n : ℕ) (first : Option ℕ) (points : List Point) (pending : List (List Choice)) → IsTrue (is_not_empty c) → HasLost P d c n first → AllByRecursion (λ (p : Point). p.goals ≤ n) points → HasSeen first points → IsStack P m base d s steps goals (c ∷ []) points pending → IsStack P m base d s steps goals [] points pending
stack-lost P m base d s steps goals c n first points pending ne h few seen k = record {
  are = k.are;
  solved = solved-lost P d no_goal c n first (traced P m base d s steps goals points pending k.are) ne h (stands-all P m base d s steps goals points pending k.are) (few-traced P m base d s steps goals n points pending few k.are) (last-seen P m base d s steps goals points pending k.are first seen) k.solved;
}

-- no list that closes the goal of one of the points begins with it
pub stack-fruitless : (P : Problem) (m : List MatrixClause) (base d : ℕ) (s : Store) (steps : List Step) (goals : List Goal) (c : List Choice) (n : ℕ) (points : List Point) (pending : List (List Choice)) → IsFruitless P d c n → AllByRecursion (λ (p : Point). p.goals ≤ n) points → IsStack P m base d s steps goals (c ∷ []) points pending → IsStack P m base d s steps goals [] points pending
stack-fruitless P m base d s steps goals c n points pending none few k = record {
  are = k.are;
  solved = solved-on P d no_goal no_goal (c ∷ []) [] (traced P m base d s steps goals points pending k.are) (omega arith) (each (traced P m base d s steps goals points pending k.are) (stands-all P m base d s steps goals points pending k.are) (few-traced P m base d s steps goals n points pending few k.are)) k.solved;
}
  where
    each : (rs : List ChoicePoint) → AllByRecursion (StandsAtPoint P d) rs → AllByRecursion (HasGoals n) rs → AllByRecursion (LeadsOn P d no_goal (c ∷ []) []) rs
    each [] stand many = tt
    each (r ∷ rs) stand many = (
      (λ l b solved begins. elim begins [
        | inl x ↦ absurd (none r stand.0 many.0.1 b solved x)
        | inr x ↦ absurd x
      ]),
      each rs stand.1 many.1,
    )

-- nothing is said of goals that were not solved where the last point has seen that all are closed
pub stack-forgotten : (P : Problem) (m : List MatrixClause) (base d : ℕ) (s : Store) (steps : List Step) (goals : List Goal) (points : List Point) (pending : List (List Choice)) → HasSeen None points → ArePointsFrom P m base d s steps goals points pending → IsStack P m base d s steps goals [] points pending
stack-forgotten P m base d s steps goals [] pending seen h = record { are = h; solved = tt }
stack-forgotten P m base d s steps goals (p ∷ points) pending seen h = record { are = h; solved = by h }
  where
    positive : (low : ℕ) (qs : List ChoicePoint) → low ≡ 0 → AllByRecursion (HasGoals (length goals)) qs → AllByRecursion (λ (q : ChoicePoint). low < q.goals) qs
    positive low [] e g = tt
    positive low (q ∷ qs) e g = ((let w = g.0.0 in omega (arith, w, e)), positive low qs e g.1)

    by : (k : ArePointsFrom P m base d s steps goals (p ∷ points) pending) → AreSolvedBehind P d no_goal [] (traced P m base d s steps goals (p ∷ points) pending k)
    by (c, untried, g, below, e, point, before, rest) =
        let all = goals-all P m base d s steps goals (p ∷ points) pending (c, untried, g, below, e, point, before, rest) in (
          (λ l. absurd (let w = all.0.0 in omega (arith, seen, l, w))),
          solved-nothing P d (min no_goal p.lowest) ([] ++ (choice_point p c untried).pending) (traced P m base d s steps goals points below rest) (positive (min no_goal p.lowest) (traced P m base d s steps goals points below rest) (omega (arith, seen)) all.1),
        )

-- ---- a new point

same-path : (steps : List Step) (goals : List Goal) (k : Option ℕ) (xs ys : List CellAtom) → IsPath steps goals k xs → IsPath steps goals k ys → xs ≡ ys
same-path steps goals k [] [] h l = refl
same-path steps goals k [] (b ∷ ys) h (j, q, e, at, is, rest) = let z : None ≡ Some j = sym h ∙ e in cc z
same-path steps goals k (a ∷ xs) [] (i, p, e, at, is, rest) l = let z : None ≡ Some i = sym l ∙ e in cc z
same-path steps goals k (a ∷ xs) (b ∷ ys) (i, p, e, at, is, rest) (j, q, f, there, are, others) =
    let number : j ≡ i = let z : Some j ≡ Some i = sym f ∙ e in cc z in
    let goal : p ≡ q = same-some (slice_get goals i) p q at (subst (λ n. slice_get goals n ≡ Some q) number there) in
    let atom : a ≡ b = same-some (atom_at steps p) a b is (subst (λ (z : Goal). atom_at steps z ≡ Some b) (sym goal) are) in
    ap₂ (λ x zs. x ∷ zs) atom (same-path steps goals p.above xs ys rest (subst (λ (z : Goal). IsPath steps goals z.above ys) (sym goal) others))

pub same-goal : (steps : List Step) (goals : List Goal) (i : ℕ) (x y : CellGoal) → IsGoalAt steps goals i x → IsGoalAt steps goals i y → x ≡ y
same-goal steps goals i x y h k =
    let goal : h.goal ≡ k.goal = same-some (slice_get goals i) h.goal k.goal h.stands k.stands in
    let one = subst (λ (z : Goal). IsGoal steps goals z x) goal h.is_goal in
    let literal = same-some (atom_at steps k.goal) x.literal y.literal one.literal k.is_goal.literal in
    let path = same-path steps goals k.goal.above x.path y.path one.path k.is_goal.path in
    λ m. record { literal = literal m; path = path m }

-- its goal is the leftmost open one, which the last point has seen
pub stack-pushed : (P : Problem) (m : List MatrixClause) (base d : ℕ) (s : Store) (steps : List Step) (goals : List Goal) (goal : ℕ) (g : CellGoal) (p : Point) (c : List Choice) (points : List Point) (pending : List (List Choice)) → IsSpace P m d → IsTrue (is_not_empty c) → IsAtGoal P m base d c s steps goals goal g → HasSeen (Some goal) points → IsPoint P m base d s steps goals p c (choices_at m d g) g → IsHere p s steps goals (Some goal) → p.lowest ≡ no_goal → AllByRecursion (IsBefore p) points → IsStack P m base d s steps goals (c ∷ []) points pending → IsStack P m base d s steps goals [] (p ∷ points) (behind c (choices_at m d g) ++ pending)
stack-pushed P m base d s steps goals goal g p c points pending space n at seen point here fresh before h = record {
  are = (c, choices_at m d g, g, pending, refl, point, before, h.are);
  solved = by points h.are h.solved seen;
}
  where
    made : choice_point p c (choices_at m d g) ≡ new_point (behind c (choices_at m d g)) c (length at.every) no_goal
    made =
        let e : p.goals ≡ length at.every = here.goals_are ∙ sym (goals-length steps goals goals at.every at.at.tree.goals) in
        λ i. record { list = c; goals = e i; lowest = fresh i; pending = behind c (choices_at m d g) }

    stands : slice_get at.every goal ≡ Some g
    stands =
        let there = goal-here P m base d c s steps goals goal g at in
        let (z, on, is) = goal-at steps goals at.every goal there.goal at.at.tree.goals there.stands in
        on ∙ ap Some (same-goal steps goals goal z g is there)

    by : (ps : List Point) (are : ArePointsFrom P m base d s steps goals ps pending) → AreSolvedBehind P d no_goal (c ∷ []) (traced P m base d s steps goals ps pending are) → HasSeen (Some goal) ps → AreSolvedBehind P d no_goal [] (choice_point p c (choices_at m d g) ∷ traced P m base d s steps goals ps pending are)
    by [] are solved low = subst (λ (q : ChoicePoint). AreSolvedBehind P d no_goal [] (q ∷ [])) (sym made) (solved-started P m d no_goal no_goal c s at.made g at.behind at.every at.depths space.matrix.matrix at.at.running.state n)
    by (q ∷ qs) (e, untried, x, below, eq, k, others, rest) solved low =
        let first = choice_point q e untried in
        let more = traced P m base d s steps goals qs below rest in
        subst (λ (z : ChoicePoint). AreSolvedBehind P d no_goal [] (z ∷ first ∷ more)) (sym made)
        (solved-pushed P m d no_goal no_goal c s at.made g at.behind at.every at.depths goal first more space.matrix.matrix at.at.running.state n stands (stands-all P m base d s steps goals (q ∷ qs) pending (e, untried, x, below, eq, k, others, rest)) low (omega arith) solved)

-- ---- the last point sees more

point-seeing : (P : Problem) (m : List MatrixClause) (base d : ℕ) (s : Store) (steps : List Step) (goals : List Goal) (n : ℕ) (p : Point) (c untried : List Choice) (g : CellGoal) → IsPoint P m base d s steps goals p c untried g → IsPoint P m base d s steps goals (seeing n p) c untried g
point-seeing P m base d s steps goals n p c untried g h = record {
  good = h.good;
  at = h.at;
  steps_within = h.steps_within;
  goals_within = h.goals_within;
  choices = record {
    above = h.choices.above;
    depth = h.choices.depth;
    later = h.choices.later;
    extensions = record { next = h.choices.extensions.next; end = h.choices.extensions.end; deep = h.choices.extensions.deep; limit = h.choices.extensions.limit; are = h.choices.extensions.are };
    are = h.choices.are;
  };
}

before-seeing : (n : ℕ) (p : Point) (points : List Point) → AllByRecursion (IsBefore p) points → AllByRecursion (IsBefore (seeing n p)) points
before-seeing n p [] h = tt
before-seeing n p (q ∷ points) h = (record { marks = h.0.marks; steps = h.0.steps; goals = h.0.goals }, before-seeing n p points h.1)

-- the same from what is known of the point that sees more
pub stack-seen : (P : Problem) (m : List MatrixClause) (base d : ℕ) (s : Store) (steps : List Step) (goals : List Goal) (n : ℕ) (p : Point) (points : List Point) (pending : List (List Choice)) → (h : ArePointsFrom P m base d s steps goals (p ∷ points) pending) → AreSolvedBehind P d no_goal [] (choice_point (seeing n p) h.0 h.1 ∷ traced P m base d s steps goals points h.3 h.7) → IsStack P m base d s steps goals [] (seeing n p ∷ points) pending
stack-seen P m base d s steps goals n p points pending (c, untried, g, below, e, point, before, rest) solved = record {
  are = (c, untried, g, below, e, point-seeing P m base d s steps goals n p c untried g point, before-seeing n p points before, rest);
  solved = solved;
}

pub stack-seeing : (P : Problem) (m : List MatrixClause) (base d : ℕ) (s : Store) (steps : List Step) (goals : List Goal) (list : List (List Choice)) (n : ℕ) (p : Point) (points : List Point) (pending : List (List Choice)) → IsStack P m base d s steps goals list (p ∷ points) pending → IsStack P m base d s steps goals list (seeing n p ∷ points) pending
stack-seeing P m base d s steps goals list n p points pending h = by h.are h.solved
  where
    by : (k : ArePointsFrom P m base d s steps goals (p ∷ points) pending) → AreSolvedBehind P d no_goal list (traced P m base d s steps goals (p ∷ points) pending k) → IsStack P m base d s steps goals list (seeing n p ∷ points) pending
    by (c, untried, g, below, e, point, before, rest) solved = record {
      are = (c, untried, g, below, e, point-seeing P m base d s steps goals n p c untried g point, before-seeing n p points before, rest);
      solved = solved-seen P d no_goal (min n p.lowest) list (choice_point p c untried) (traced P m base d s steps goals points below rest) (omega arith) solved;
    }

pub last-of : (xs : List Point) → (xs ≡ []) ⊎ ((ys : List Point) × (y : Point) × (xs ≡ ys ++ y ∷ []))
last-of [] = inl refl
last-of (x ∷ xs) = inr (elim (last-of xs) [
  | inl e ↦ ([], x, ap (λ zs. x ∷ zs) e)
  | inr k ↦ (x ∷ k.0, k.1, ap (λ zs. x ∷ zs) k.2)
])

-- the last point first
abbrev pub first-seeing : ℕ → List Point → List Point
first-seeing n [] = []
first-seeing n (p ∷ points) = seeing n p ∷ points

pub reverse-seeing : (n : ℕ) (before after : List Point) → SeeMore n before after → reverse after ≡ first-seeing n (reverse before)
reverse-seeing n before after h = elim (last-of before) [
  | inl e ↦ ap reverse (h.none e) ∙ sym (ap (λ xs. first-seeing n (reverse xs)) e)
  | inr k ↦ ap reverse (h.last k.0 k.1 k.2) ∙ reverse-append k.0 (seeing n k.1 ∷ []) ∙ sym (ap (λ xs. first-seeing n (reverse xs)) k.2 ∙ ap (first-seeing n) (reverse-append k.0 (k.1 ∷ [])))
]

-- where nothing more is to be told of goals that were not solved
pub stack-cleared : (P : Problem) (m : List MatrixClause) (base d : ℕ) (s : Store) (steps : List Step) (goals : List Goal) (before after : List Point) (pending : List (List Choice)) → SeeMore 0 before after → ArePointsFrom P m base d s steps goals (reverse before) pending → IsStack P m base d s steps goals [] (reverse after) pending
stack-cleared P m base d s steps goals before after pending more h = subst (λ ps. IsStack P m base d s steps goals [] ps pending) (sym (reverse-seeing 0 before after more)) (by (reverse before) h)
  where
    by : (ps : List Point) → ArePointsFrom P m base d s steps goals ps pending → IsStack P m base d s steps goals [] (first-seeing 0 ps) pending
    by [] k = record { are = k; solved = tt }
    by (p ∷ ps) (c, untried, g, below, e, point, before, rest) = stack-forgotten P m base d s steps goals (seeing 0 p ∷ ps) pending (let z : min 0 p.lowest ≡ 0 = omega arith in z) (c, untried, g, below, e, point-seeing P m base d s steps goals 0 p c untried g point, before-seeing 0 p ps before, rest)

-- where a goal from the number n on cannot be closed, and the last point has seen that number
pub stack-dropped : (P : Problem) (m : List MatrixClause) (base d : ℕ) (s : Store) (steps : List Step) (goals : List Goal) (c : List Choice) (n : ℕ) (before after : List Point) (pending : List (List Choice)) → IsTrue (is_not_empty c) → HasLost P d c n None → SeeMore n before after → IsStack P m base d s steps goals (c ∷ []) (reverse before) pending → IsStack P m base d s steps goals [] (reverse after) pending
stack-dropped P m base d s steps goals c n before after pending ne h more k = subst (λ ps. IsStack P m base d s steps goals [] ps pending) (sym (reverse-seeing n before after more)) (by (reverse before) k)
  where
    dropped : (p : Point) (ps : List Point) (are : ArePointsFrom P m base d s steps goals (seeing n p ∷ ps) pending) → AreSolvedBehind P d no_goal (c ∷ []) (traced P m base d s steps goals (seeing n p ∷ ps) pending are) → AreSolvedBehind P d no_goal [] (traced P m base d s steps goals (seeing n p ∷ ps) pending are)
    dropped p ps (e, untried, x, below, eq, point, others, rest) solved = elim h.later [
      | inl l ↦ (let low : min n p.lowest ≤ h.number = omega (arith, l) in solved-cannot P d no_goal h.number c h.state h.goal (choice_point (seeing n p) e untried) (traced P m base d s steps goals ps below rest) ne h.is_state h.stands h.cannot (stands-all P m base d s steps goals (seeing n p ∷ ps) pending (e, untried, x, below, eq, point, others, rest)) low solved)
      | inr (j, none, l) ↦ (let z : None ≡ Some j = none in absurd (cc z))
    ]

    lost : (p : Point) (ps : List Point) → IsStack P m base d s steps goals (c ∷ []) (seeing n p ∷ ps) pending → IsStack P m base d s steps goals [] (seeing n p ∷ ps) pending
    lost p ps q = record { are = q.are; solved = dropped p ps q.are q.solved }

    by : (ps : List Point) → IsStack P m base d s steps goals (c ∷ []) ps pending → IsStack P m base d s steps goals [] (first-seeing n ps) pending
    by [] q = record { are = q.are; solved = tt }
    by (p ∷ ps) q = lost p ps (stack-seeing P m base d s steps goals (c ∷ []) n p ps pending q)

-- ---- choices that are passed over

nowhere-always : (P : Problem) (d n low : ℕ) (c : List Choice) (qs : List ChoicePoint) → AllByRecursion (HasGoals n) qs → AllByRecursion (LeadsNowhere P d n c) qs → AllByRecursion (LeadsNowhere P d low c) qs
nowhere-always P d n low c [] g h = tt
nowhere-always P d n low c (q ∷ qs) g h = ((λ l b k. h.0 g.0.1 b k), nowhere-always P d n low c qs g.1 h.1)

-- no list that closes the goal of a point begins with one that is passed over
nowhere-passed_over : (P : Problem) (m : List MatrixClause) (base d : ℕ) (c : List Choice) (s : Store) (steps : List Step) (goals : List Goal) (goal : ℕ) (g : CellGoal) (left : Bool) (x : Choice) (qs : List ChoicePoint) → IsMatrixOf P m → IsAtGoal P m base d c s steps goals goal g → IsPassed P m d c g left x → AllByRecursion (StandsAtPoint P d) qs → AllByRecursion (HasGoals (length goals)) qs → AllByRecursion (LeadsNowhere P d no_goal (c ++ x ∷ [])) qs
nowhere-passed_over P m base d c s steps goals goal g left x qs tm at (inl none) stand many = each qs
  where
    each : (rs : List ChoicePoint) → AllByRecursion (LeadsNowhere P d no_goal (c ++ x ∷ [])) rs
    each [] = tt
    each (r ∷ rs) = ((λ l b k. refused-unsolved P d r.list (c ++ x ∷ []) b (not-empty-behind c x) none k), each rs)
nowhere-passed_over P m base d c s steps goals goal g left x qs tm at (inr (known, near, (k, is, hopeless))) stand many =
    let count : length at.every ≡ length goals = goals-length steps goals goals at.every at.at.tree.goals in
    subst (λ z. AllByRecursion (LeadsNowhere P d no_goal (c ++ z ∷ [])) qs) (sym is)
    (nowhere-always P d (length at.every) no_goal (c ++ extension_at m k ∷ []) qs (subst (λ n. AllByRecursion (HasGoals n) qs) (sym count) many) (nowhere-passed P m d c s at.made g at.behind at.every at.depths k qs tm.matrix at.at.running.state near hopeless stand))

-- choices that are passed over go from what is pending on the point
pub solved-passed_over : (P : Problem) (m : List MatrixClause) (base d : ℕ) (c : List Choice) (s : Store) (steps : List Step) (goals : List Goal) (goal : ℕ) (g : CellGoal) (left : Bool) (p : Point) (passed rest : List Choice) (qs : List ChoicePoint) → IsMatrixOf P m → IsAtGoal P m base d c s steps goals goal g → AllByRecursion (IsPassed P m d c g left) passed → ((xs : List Choice) → AllByRecursion (StandsAtPoint P d) (choice_point p c xs ∷ qs) × AllByRecursion (HasGoals (length goals)) (choice_point p c xs ∷ qs)) → AreSolvedBehind P d no_goal [] (choice_point p c (passed ++ rest) ∷ qs) → AreSolvedBehind P d no_goal [] (choice_point p c rest ∷ qs)
solved-passed_over P m base d c s steps goals goal g left p [] rest qs tm at each all h = h
solved-passed_over P m base d c s steps goals goal g left p (x ∷ passed) rest qs tm at (why, each) all h =
    let these = all (x ∷ (passed ++ rest)) in
    solved-passed_over P m base d c s steps goals goal g left p passed rest qs tm at each all
    (solved-passed P d no_goal (choice_point p c (x ∷ (passed ++ rest))) (c ++ x ∷ []) (behind c (passed ++ rest)) qs refl (nowhere-passed_over P m base d c s steps goals goal g left x (choice_point p c (x ∷ (passed ++ rest)) ∷ qs) tm at why these.0 these.1) h)

-- ---- how many choices were made

pub stands-steps : (P : Problem) (m : List MatrixClause) (base d : ℕ) (c : List Choice) (s : Store) (steps : List Step) (goals : List Goal) (first : Option ℕ) → StandsFor P m base d c s steps goals first → length steps ≡ length c
stands-steps P m base d c s steps goals first (cs, x, h) = sym (length-map steps (the_step m)) ∙ ap length h.tree.made ∙ sym (length-map cs name_of) ∙ ap length h.running.state.names

not-within : (n b : ℕ) → b < n → nat_le n b ≡ false
not-within n b l = by (nat_le n b) refl
  where
    by : (t : Bool) → nat_le n b ≡ t → nat_le n b ≡ false
    by true e = absurd (let k = leb-true n b e in omega (arith, k, l))
    by false e = e

-- what is seen after a choice is the leftmost open goal, where the choice was made
pub seen-made : (before now : ℕ) (first : Option ℕ) (p : Point) (points : List Point) → before < now → HasSeen first (seeing (seen_after before now first) p ∷ points)
seen-made before now first p points l = subst (λ n. HasSeen first (seeing n p ∷ points)) (sym number) (by first)
  where
    number : seen_after before now first ≡ number_of first
    number = rw (not-within now before l) refl

    by : (o : Option ℕ) → HasSeen o (seeing (number_of o) p ∷ points)
    by None = omega arith
    by (Some k) = omega arith

-- the last item is set
pub set-last : (xs : List Point) (p q : Point) (k : ℕ) → k ≡ length xs → slice_set (xs ++ p ∷ []) k q ≡ xs ++ q ∷ []
set-last xs p q k e = subst (λ n. slice_set (xs ++ p ∷ []) n q ≡ xs ++ q ∷ []) (sym e) (by xs)
  where
    by : (ys : List Point) → slice_set (ys ++ p ∷ []) (length ys) q ≡ ys ++ q ∷ []
    by [] = refl
    by (y ∷ ys) = ap (λ zs. y ∷ zs) (by ys)

last-item : (xs : List Point) (p : Point) (k : ℕ) → k ≡ length xs → slice_get (xs ++ p ∷ []) k ≡ Some p
last-item xs p k e = subst (λ n. slice_get (xs ++ p ∷ []) n ≡ Some p) (sym e) (by xs)
  where
    by : (ys : List Point) → slice_get (ys ++ p ∷ []) (length ys) ≡ Some p
    by [] = refl
    by (y ∷ ys) = by ys

pub more-set : (n : ℕ) (before : List Point) (k : ℕ) (old q : Point) → suc k ≡ length before → slice_get before k ≡ Some old → q ≡ seeing n old → SeeMore n before (slice_set before k q)
more-set n before k old q e at is = record {
  last = λ xs p same.
      let l = ap length same in
      let m = length-append xs (p ∷ []) in
      let number : k ≡ length xs = omega (arith, e, l, m) in
      let first : old ≡ p = let z : Some old ≡ Some p = sym at ∙ ap (λ zs. slice_get zs k) same ∙ last-item xs p k number in cc z in
      ap (λ zs. slice_set zs k q) same ∙ set-last xs p q k number ∙ ap (λ x. xs ++ x ∷ []) (is ∙ ap (seeing n) first);
  none = λ same. absurd (let l = ap length same in omega (arith, e, l));
}
