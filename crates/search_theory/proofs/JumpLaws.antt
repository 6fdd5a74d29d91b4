-- Jumps back: where a goal is not closed by any of its choices, and was not closed since its point was made, each list that leaves the
-- bindings of the goal and of its path as they are is given up. How the points tell which goals were not solved, step by step.
use Rattle.std.proofs.Common.{◌≡◌, ◌⊎◌, ℕ, ◌<◌, ◌≤◌, List, [], ◌∷◌, ◌++◌, length, map, min, not, option_map, true, IsTrue, sym, ◌∙◌, ap, subst, Some, slice_get, inl, inr, arith, append_assoc}
use Rattle.std.specs.List.{AllByRecursion}
use Rattle.std.proofs.lemmas.Bool.{false≢true}
use Rattle.std.proofs.lemmas.Option.{slice_get-map}
use Rattle.calculus.proofs.GrowthLaws.{closed-new}
use Rattle.calculus.specs.Syntax.{Problem}
use Rattle.calculus.specs.Space.{Member}
use Rattle.calculus.specs.Choices.{Choice}
use Rattle.store_theory.specs.Stores.{Store, Solution}
use Rattle.store_theory.specs.Systems.{CellAtom}
use Rattle.search_theory.specs.Exploring.{BeginsWith, BeginsWithOne, IsClosedList, behind, IsIn}
use Rattle.search_theory.specs.Jumps.{ChoicePoint, AreSolvedBehind, IsFruitless, IsSolvedBehind, IsSolvedList, StandsAtPoint}
use Rattle.search_theory.specs.Matrix.{MatrixClause, IsTemplateMatrix}
use Rattle.search_theory.specs.OrderedChoices.{choices_at}
use Rattle.search_theory.specs.Regular.{AreSame}
use Rattle.search_theory.specs.Searching.{IsSearch}
use Rattle.search_theory.specs.States.{CellChoice, CellGoal, State, literal_by, IsGround, IsStateOf}
use Rattle.search_theory.specs.DeadEnds.{is_not_empty, Grows}
use Rattle.search_theory.proofs.ExploreLaws.{begins-left, begins-right}
use Rattle.search_theory.proofs.ExtensionLaws.{state_at}
use Rattle.search_theory.proofs.LookAheadLaws.{closed-image, goal-closed}
use Rattle.search_theory.specs.Closing.{IsCloseable, CannotClose}
use Rattle.search_theory.proofs.PruningLaws.{search-pruned}
use Rattle.search_theory.proofs.RegularLaws.{any-there}
use Rattle.search_theory.proofs.SolvedLaws.{refused-unsolved, solved-first, solved-goals, solved-image, solved-later, unsolved-open}
use Rattle.search_theory.proofs.TransplantLaws.{IsGoalOf, Transplanted, goal-alike}

-- ---- a goal that cannot be closed

-- a goal that has no list left, in an older state in which its cells are the same
pub cannot-transplant : (P : Problem) (d : ℕ) (p : List Choice) (Q S : State) (g : CellGoal) (gs : List CellGoal) (R : ℕ → Type 0) → IsStateOf P d p S → S.growth.open_goals ≡ g ∷ gs → IsSolvedBehind P d p [] → IsGoalOf R g → ((σ : Solution) → IsGround P Q σ → Transplanted P S R σ) → CannotClose P d Q g
cannot-transplant P d p Q S g gs R h o none i back σ ground closed =
    let t = back σ ground in
    unsolved-open P d p S g gs h o none t.solution t.ground (subst (IsCloseable P d) (sym (goal-alike R σ t.solution g t.agree i)) closed)

-- no closed tableau begins with the list of a state with such a goal
pub cannot-pruned : (P : Problem) (d : ℕ) (q : List Choice) (Q : State) (g : CellGoal) → IsTrue (is_not_empty q) → IsStateOf P d q Q → IsIn g Q.growth.all_goals → CannotClose P d Q g → (b : List Choice) → IsClosedList P d b → ¬ BeginsWith q b
cannot-pruned P d q Q g n h at cannot b closed begins =
    let k = closed-image P d q b Q n h closed begins in
    cannot k.solution k.ground (goal-closed P d Q g at k)

-- nor a list that closes the leftmost open goal of c, where the goal came after the tree of c
pub cannot-solved : (P : Problem) (d : ℕ) (c q : List Choice) (C Q : State) (g : CellGoal) (j : ℕ) → IsStateOf P d c C → IsTrue (is_not_empty q) → IsStateOf P d q Q → length C.growth.all_goals ≤ j → slice_get Q.growth.all_goals j ≡ Some g → CannotClose P d Q g → (b : List Choice) → IsSolvedList P d c b → ¬ BeginsWith q b
cannot-solved P d c q C Q g j hc n h later at cannot b k begins =
    let r = solved-image P d c q b Q (length C.growth.all_goals) n h k (solved-goals P d c b C hc k) begins in
    cannot r.solution r.ground (r.closeable j g later at)

-- a goal that is the same as one of its path
pub repeated-cannot : (P : Problem) (d : ℕ) (S : State) (g : CellGoal) (i : ℕ) (a : CellAtom) → slice_get g.path i ≡ Some a → AreSame S.store g.literal a → CannotClose P d S g
repeated-cannot P d S g i a at same σ ground (y, closed) =
    let path = map (literal_by σ) g.path in
    let x = literal_by σ g.literal in
    let stands = any-there x path i (literal_by σ a) (slice_get-map (literal_by σ) g.path i ∙ ap (option_map (literal_by σ)) at) (same σ ground.solves) in
    false≢true (sym (ap not stands) ∙ closed-new P d y path x closed)

-- ---- the search drops what begins with a list that no closed tableau begins with

begins-both : (q p b : List Choice) → BeginsWith q p → BeginsWith p b → BeginsWith q b
begins-both q p b (xs, e) (ys, f) = (xs ++ ys, f ∙ ap (λ zs. zs ++ ys) e ∙ append_assoc q xs ys)

pub search-jump : (P : Problem) (d : ℕ) (spent : List Member) (q : List Choice) (xs ps : List (List Choice)) → ((b : List Choice) → IsClosedList P d b → ¬ BeginsWith q b) → AllByRecursion (BeginsWith q) xs → IsSearch P d spent (xs ++ ps) true → IsSearch P d spent ps true
search-jump P d spent q [] ps none begin h = h
search-jump P d spent q (x ∷ xs) ps none begin h = search-jump P d spent q xs ps none begin.1 (search-pruned P d spent x (xs ++ ps) h (λ b closed k. none b closed (begins-both q x b begin.0 k)))

-- ---- points

begins-split : (xs ys : List (List Choice)) (b : List Choice) → BeginsWithOne (xs ++ ys) b → BeginsWithOne xs b ⊎ BeginsWithOne ys b
begins-split [] ys b h = inr h
begins-split (x ∷ xs) ys b (inl h) = inl (inl h)
begins-split (x ∷ xs) ys b (inr h) = elim (begins-split xs ys b h) [ inl k ↦ inl (inr k) | inr k ↦ inr k ]

-- for a point whose goal was not solved down to the number `low`, what begins with one of the lists begins with one of the others
abbrev pub LeadsOn : Problem → ℕ → ℕ → List (List Choice) → List (List Choice) → ChoicePoint → Type 0
LeadsOn P d low before after q = q.goals ≤ low → (b : List Choice) → IsSolvedList P d q.list b → BeginsWithOne before b → BeginsWithOne after b

lead-lower : (P : Problem) (d low n : ℕ) (before after more : List (List Choice)) (qs : List ChoicePoint) → AllByRecursion (LeadsOn P d low before after) qs → AllByRecursion (LeadsOn P d (min low n) (before ++ more) (after ++ more)) qs
lead-lower P d low n before after more [] h = tt
lead-lower P d low n before after more (q ∷ qs) h = (
  (λ l b k begins. elim (begins-split before more b begins) [
    | inl x ↦ begins-left after more b (h.0 (let a = l in omega (arith, a)) b k x)
    | inr x ↦ begins-right after more b x
  ]),
  lead-lower P d low n before after more qs h.1,
)

-- what comes before the points may change so, and the number may fall
pub solved-on : (P : Problem) (d low after_low : ℕ) (before after : List (List Choice)) (qs : List ChoicePoint) → after_low ≤ low → AllByRecursion (LeadsOn P d after_low before after) qs → AreSolvedBehind P d low before qs → AreSolvedBehind P d after_low after qs
solved-on P d low after_low before after [] l h k = tt
solved-on P d low after_low before after (q ∷ qs) l h k = (
  (λ m b s. elim (begins-split before q.pending b (k.0 (omega (arith, l, m)) b s)) [
    | inl x ↦ begins-left after q.pending b (h.0 (omega (arith, m)) b s x)
    | inr x ↦ begins-right after q.pending b x
  ]),
  solved-on P d (min low q.lowest) (min after_low q.lowest) (before ++ q.pending) (after ++ q.pending) qs (omega (arith, l)) (lead-lower P d after_low q.lowest before after q.pending qs h.1) k.1,
)

-- the same behind a point that has seen a leftmost open goal of this number
pub solved-below : (P : Problem) (d low n : ℕ) (before after : List (List Choice)) (p : ChoicePoint) (qs : List ChoicePoint) → p.lowest ≤ n → AllByRecursion (LeadsOn P d n before after) (p ∷ qs) → AreSolvedBehind P d low before (p ∷ qs) → AreSolvedBehind P d low after (p ∷ qs)
solved-below P d low n before after p qs l h k =
    let lower = solved-on P d low (min low n) before after (p ∷ qs) (omega arith) (all-lower (p ∷ qs) h) k in
    let same : min (min low n) p.lowest ≡ min low p.lowest = omega (arith, l) in (
      (λ m. lower.0 (omega (arith, same, m))),
      subst (λ x. AreSolvedBehind P d x (after ++ p.pending) qs) same lower.1,
    )
  where
    all-lower : (rs : List ChoicePoint) → AllByRecursion (LeadsOn P d n before after) rs → AllByRecursion (LeadsOn P d (min low n) before after) rs
    all-lower [] g = tt
    all-lower (r ∷ rs) g = ((λ m. g.0 (omega (arith, m))), all-lower rs g.1)

-- ---- one list of the last point is tried

abbrev pub with_pending : ChoicePoint → List (List Choice) → ChoicePoint
with_pending p xs = record { list = p.list; goals = p.goals; lowest = p.lowest; pending = xs }

abbrev pub with_lowest : ChoicePoint → ℕ → ChoicePoint
with_lowest p n = record { list = p.list; goals = p.goals; lowest = n; pending = p.pending }

pub solved-tried : (P : Problem) (d low : ℕ) (p : ChoicePoint) (x : List Choice) (xs : List (List Choice)) (qs : List ChoicePoint) → p.pending ≡ x ∷ xs → AreSolvedBehind P d low [] (p ∷ qs) → AreSolvedBehind P d low (x ∷ []) (with_pending p xs ∷ qs)
solved-tried P d low p x xs qs e h = (
  (λ l. subst (IsSolvedBehind P d p.list) e (h.0 l)),
  subst (λ ys. AreSolvedBehind P d (min low p.lowest) ys qs) e h.1,
)

-- the last point has seen a leftmost open goal of a lower number
pub solved-seen : (P : Problem) (d low n : ℕ) (before : List (List Choice)) (p : ChoicePoint) (qs : List ChoicePoint) → n ≤ p.lowest → AreSolvedBehind P d low before (p ∷ qs) → AreSolvedBehind P d low before (with_lowest p n ∷ qs)
solved-seen P d low n before p qs l h = (
  (λ m. h.0 (omega (arith, l, m))),
  solved-on P d (min low p.lowest) (min low n) (before ++ p.pending) (before ++ p.pending) qs (omega (arith, l)) (all-same qs) h.1,
)
  where
    all-same : (rs : List ChoicePoint) → AllByRecursion (LeadsOn P d (min low n) (before ++ p.pending) (before ++ p.pending)) rs
    all-same [] = tt
    all-same (r ∷ rs) = ((λ m b s k. k), all-same rs)

-- ---- what becomes of the list

-- no list that closes a point's goal begins with it
abbrev pub LeadsNowhere : Problem → ℕ → ℕ → List Choice → ChoicePoint → Type 0
LeadsNowhere P d n c q = q.goals ≤ n → (b : List Choice) → IsSolvedList P d q.list b → ¬ BeginsWith c b

lead-nowhere : (P : Problem) (d n : ℕ) (c : List Choice) (qs : List ChoicePoint) → AllByRecursion (LeadsNowhere P d n c) qs → AllByRecursion (LeadsOn P d n (c ∷ []) []) qs
lead-nowhere P d n c [] h = tt
lead-nowhere P d n c (q ∷ qs) h = ((λ l b s k. elim k [ inl x ↦ absurd (h.0 l b s x) | inr x ↦ absurd x ]), lead-nowhere P d n c qs h.1)

-- it is given up
pub solved-dropped : (P : Problem) (d low n : ℕ) (c : List Choice) (p : ChoicePoint) (qs : List ChoicePoint) → p.lowest ≤ n → AllByRecursion (LeadsNowhere P d n c) (p ∷ qs) → AreSolvedBehind P d low (c ∷ []) (p ∷ qs) → AreSolvedBehind P d low [] (p ∷ qs)
solved-dropped P d low n c p qs l h k = solved-below P d low n (c ∷ []) [] p qs l (lead-nowhere P d n c (p ∷ qs) h) k

-- no tree follows it
pub solved-refused : (P : Problem) (d low : ℕ) (c : List Choice) (qs : List ChoicePoint) → IsTrue (is_not_empty c) → ¬ Grows P c → AreSolvedBehind P d low (c ∷ []) qs → AreSolvedBehind P d low [] qs
solved-refused P d low c qs n none h = solved-on P d low low (c ∷ []) [] qs (omega arith) (lead-nowhere P d low c qs (each qs)) h
  where
    each : (rs : List ChoicePoint) → AllByRecursion (LeadsNowhere P d low c) rs
    each [] = tt
    each (r ∷ rs) = ((λ l b s. refused-unsolved P d r.list c b n none s), each rs)

-- its goal of this number cannot be closed
pub nowhere-cannot : (P : Problem) (d j : ℕ) (c : List Choice) (S : State) (g : CellGoal) (qs : List ChoicePoint) → IsTrue (is_not_empty c) → IsStateOf P d c S → slice_get S.growth.all_goals j ≡ Some g → CannotClose P d S g → AllByRecursion (StandsAtPoint P d) qs → AllByRecursion (LeadsNowhere P d j c) qs
nowhere-cannot P d j c S g [] n h at cannot stand = tt
nowhere-cannot P d j c S g (q ∷ qs) n h at cannot stand = (
  (λ l b s. cannot-solved P d q.list c stand.0.state S g j stand.0.is_state n h (let e = stand.0.goals in omega (arith, e, l)) at cannot b s),
  nowhere-cannot P d j c S g qs n h at cannot stand.1,
)

pub solved-cannot : (P : Problem) (d low j : ℕ) (c : List Choice) (S : State) (g : CellGoal) (p : ChoicePoint) (qs : List ChoicePoint) → IsTrue (is_not_empty c) → IsStateOf P d c S → slice_get S.growth.all_goals j ≡ Some g → CannotClose P d S g → AllByRecursion (StandsAtPoint P d) (p ∷ qs) → p.lowest ≤ j → AreSolvedBehind P d low (c ∷ []) (p ∷ qs) → AreSolvedBehind P d low [] (p ∷ qs)
solved-cannot P d low j c S g p qs n h at cannot stand l k = solved-dropped P d low j c p qs l (nowhere-cannot P d j c S g (p ∷ qs) n h at cannot stand) k

-- it closes the goal of no point at which the tree had at most n goals
pub nowhere-fruitless : (P : Problem) (d n : ℕ) (c : List Choice) (qs : List ChoicePoint) → IsFruitless P d c n → AllByRecursion (StandsAtPoint P d) qs → AllByRecursion (LeadsNowhere P d n c) qs
nowhere-fruitless P d n c [] h stand = tt
nowhere-fruitless P d n c (q ∷ qs) h stand = (h q stand.0, nowhere-fruitless P d n c qs h stand.1)

-- a list of the last point is passed over
pub solved-passed : (P : Problem) (d low : ℕ) (p : ChoicePoint) (x : List Choice) (xs : List (List Choice)) (qs : List ChoicePoint) → p.pending ≡ x ∷ xs → AllByRecursion (LeadsNowhere P d low x) (p ∷ qs) → AreSolvedBehind P d low [] (p ∷ qs) → AreSolvedBehind P d low [] (with_pending p xs ∷ qs)
solved-passed P d low p x xs qs e nowhere h = solved-on P d low low (x ∷ []) [] (with_pending p xs ∷ qs) (omega arith) (lead-nowhere P d low x (with_pending p xs ∷ qs) nowhere) (solved-tried P d low p x xs qs e h)

-- nothing is asked any more where a leftmost open goal had a number below the goals of each point
pub solved-nothing : (P : Problem) (d low : ℕ) (before : List (List Choice)) (qs : List ChoicePoint) → AllByRecursion (λ (q : ChoicePoint). low < q.goals) qs → AreSolvedBehind P d low before qs
solved-nothing P d low before [] h = tt
solved-nothing P d low before (q ∷ qs) h = ((λ m. absurd (let a = h.0 in omega (arith, a, m))), solved-nothing P d (min low q.lowest) (before ++ q.pending) qs (lower qs h.1))
  where
    lower : (rs : List ChoicePoint) → AllByRecursion (λ (r : ChoicePoint). low < r.goals) rs → AllByRecursion (λ (r : ChoicePoint). min low q.lowest < r.goals) rs
    lower [] g = tt
    lower (r ∷ rs) g = ((let a = g.0 in omega (arith, a)), lower rs g.1)

-- ---- a new point

abbrev pub new_point : List (List Choice) → List Choice → ℕ → ℕ → ChoicePoint
new_point pending c n low = record { list = c; goals = n; lowest = low; pending = pending }

lead-later : (P : Problem) (m : List MatrixClause) (d : ℕ) (c : List Choice) (s : Store) (cs : List CellChoice) (g : CellGoal) (gs every : List CellGoal) (ds : List ℕ) (j : ℕ) (qs : List ChoicePoint) → IsTemplateMatrix P m → IsStateOf P d c (state_at s cs g gs every ds) → IsTrue (is_not_empty c) → slice_get every j ≡ Some g → AllByRecursion (StandsAtPoint P d) qs → AllByRecursion (LeadsOn P d j (c ∷ []) (behind c (choices_at m d g))) qs
lead-later P m d c s cs g gs every ds j [] tm h n at stand = tt
lead-later P m d c s cs g gs every ds j (q ∷ qs) tm h n at stand = (
  (λ l b k begins. elim begins [
    | inl x ↦ (let e = stand.0.goals in solved-later P m d q.list c b s cs g gs every ds (length stand.0.state.growth.all_goals) j tm h n k (solved-goals P d q.list b stand.0.state stand.0.is_state k) (omega (arith, e, l)) at x)
    | inr x ↦ absurd x
  ]),
  lead-later P m d c s cs g gs every ds j qs tm h n at stand.1,
)

-- a point is made at a list whose leftmost open goal has the number j, which the last point has seen
pub solved-pushed : (P : Problem) (m : List MatrixClause) (d low top : ℕ) (c : List Choice) (s : Store) (cs : List CellChoice) (g : CellGoal) (gs every : List CellGoal) (ds : List ℕ) (j : ℕ) (p : ChoicePoint) (qs : List ChoicePoint) → IsTemplateMatrix P m → IsStateOf P d c (state_at s cs g gs every ds) → IsTrue (is_not_empty c) → slice_get every j ≡ Some g → AllByRecursion (StandsAtPoint P d) (p ∷ qs) → p.lowest ≤ j → low ≤ top → AreSolvedBehind P d low (c ∷ []) (p ∷ qs) → AreSolvedBehind P d low [] (new_point (behind c (choices_at m d g)) c (length every) top ∷ p ∷ qs)
solved-pushed P m d low top c s cs g gs every ds j p qs tm h n at stand l t k =
    let same : min low top ≡ low = omega (arith, t) in (
      (λ x. solved-first P m d c s cs g gs every ds tm h n),
      subst (λ x. AreSolvedBehind P d x (behind c (choices_at m d g)) (p ∷ qs)) (sym same) (solved-below P d low j (c ∷ []) (behind c (choices_at m d g)) p qs l (lead-later P m d c s cs g gs every ds j (p ∷ qs) tm h n at stand) k),
    )

-- the first point
pub solved-started : (P : Problem) (m : List MatrixClause) (d low top : ℕ) (c : List Choice) (s : Store) (cs : List CellChoice) (g : CellGoal) (gs every : List CellGoal) (ds : List ℕ) → IsTemplateMatrix P m → IsStateOf P d c (state_at s cs g gs every ds) → IsTrue (is_not_empty c) → AreSolvedBehind P d low [] (new_point (behind c (choices_at m d g)) c (length every) top ∷ [])
solved-started P m d low top c s cs g gs every ds tm h n = ((λ x. solved-first P m d c s cs g gs every ds tm h n), tt)
