-- The loop of the search that does not return to solved goals: one law for each way that it goes on.
use Rattle.std.proofs.Common.{◌≡◌, ◌||◌, ◌+◌, ◌-◌, ◌*◌, ◌<◌, ◌≤◌, ℕ, zero, suc, List, [], ◌∷◌, ◌++◌, drop, length, map, reverse, sum_by, take, Bool, true, false, IsTrue, refl, sym, ◌∙◌, ap, subst, Option, Some, None, MatchOption, slice_get, arith, append_assoc, append-nil}
use Rattle.std.specs.List.{AllByRecursion}
use Rattle.std.specs.Prelude.{option_map}
use Rattle.std.proofs.lemmas.Bool.{false≢true}
use Rattle.std.proofs.lemmas.List.{length-append, length-drop, length-map, length-reverse, reverse-append, take-append-drop}
use Rattle.std.proofs.lemmas.List.Sums.{sum_by-append, sum_by-take-le}
use Rattle.store_theory.specs.Bindings.{KeepsMarks}
use Rattle.calculus.specs.Choices.{Choice, IsLive, choice_cmp, choices_of, ground_choices, reduction, start}
use Rattle.calculus.specs.Clauses.{clause_size, selections}
use Rattle.calculus.specs.declared.sign.Sign.TheVariants.{F}
use Rattle.calculus.proofs.SelectionLaws.{selections-rise}
use Rattle.calculus.specs.Counting.{AtLeastMany, IsRising, MoreThan}
use Rattle.calculus.specs.Cut.{Cuts, Fills, IsRegularLive, goals_added}
use Rattle.calculus.specs.Space.{IsMember, has_labels, lengths_cmp, member_cmp, with_choices, with_lengths}
use Rattle.store_theory.specs.Stores.{IsGood, Store, cut_at}
use Rattle.calculus.specs.Syntax.{Problem}
use Rattle.calculus.specs.Tableaux.{is_closed}
use Rattle.calculus.specs.declared.sign.Side.{Side}
use Rattle.search_theory.specs.Cutting.{FailsFrom, FailsTo, IsNext, IsToldOf, Level, open_depths, pending_on}
use Rattle.search_theory.specs.Cutting as cutting
use Rattle.search_theory.specs.Exploring.{IsClosedList, IsMemberAt, Passes, behind}
use Rattle.search_theory.specs.Matrix.{IsTemplateMatrix, MatrixClause, all_shown}
use Rattle.search_theory.specs.OrderedChoices.{choices_at, selection_of}
use Rattle.search_theory.specs.Regular.{HasNoSamePair}
use Rattle.search_theory.specs.States.{CellChoice, CellGoal, CellGrowth, State, growth_at}
use Rattle.search_theory.specs.StateSystems as systems
use Rattle.search_theory.specs.DeadEnds.{IsDead}
use Rattle.search_theory.proofs.ChoiceLaws.{choices-rise}
use Rattle.search_theory.proofs.CutEnds.{fails-dead, fails-more, trying-failed}
use Rattle.search_theory.proofs.CutLimits.{fails-whole_beyond, sound-more, state-short, told-before, told-from, told-itself, untried-told}
use Rattle.search_theory.proofs.DeepenLaws.{starting, starting-rises}
use Rattle.search_theory.proofs.MatrixStart.{dead-start}
use Rattle.search_theory.proofs.DepthLaws.{cell_path_lengths, state-depths}
use Rattle.search_theory.proofs.ExtensionLaws.{is_start}
use Rattle.search_theory.proofs.LeftLabels.{regular-by_distinct}
use Rattle.search_theory.proofs.LevelLaws.{all-solved, levels-depths, levels-start, settled, trying-first, trying-less, trying-next}
use Rattle.search_theory.proofs.PassingLaws.{passes-ended, passes-keep, passes-lengths, passes-less, passes-many, passes-start, passes-visit}
use Rattle.search_theory.proofs.RankLaws.{rank_of}
use Rattle.search_theory.proofs.SoundLaws.{dead-unsound, sound-start, sound-state}
use Rattle.search_theory.proofs.Dropping.{drop-front}
use Rattle.tableau_core.specs.Numbered.TableauView.{the_tableau}
use Rattle.term_store.specs.StoreView.{the_mark}
use Rattle.connection_search.specs.Cutting.{AreLevelPoints, IsCountedAt, IsCutEnded, IsCutExploring, IsCutFailed, IsCutVisiting, IsPassing}
use Rattle.connection_search.specs.Deciding.{IsEnded, IsSolving}
use Rattle.connection_search.specs.Exploring.{IsBefore, IsSpace}
use Rattle.search_tree.specs.Points.{HasUntried, IsHere, IsMoveAt, IsPoint, IsSamePoint, the_move}
use Rattle.search_tree.specs.Running.{IsAt, IsAtGoal, IsLeftFound, IsMatrixOf, IsRunning, StandsFor}
use Rattle.search_tree.specs.Trees.{IsGoalAt, KeepsTree, tree_system}
use Rattle.search_tree.specs.Weights.{greatest_weight, weight, work_left}
use Rattle.connection_search.specs.declared.visit.Visit.{Visit}
use Rattle.connection_search.specs.declared.visit.Visit.TheVariants as visit
use Rattle.search_tree.specs.declared.point.Move.{Move}
use Rattle.search_tree.specs.declared.point.Move.TheVariants.{Reduce, Extend}
use Rattle.search_tree.specs.declared.point.Point.{Point}
use Rattle.search_tree.specs.declared.tree.Goal.{Goal}
use Rattle.search_tree.specs.declared.tree.Step.{Step}
use Rattle.search_tree.specs.declared.tree.Tree.{Tree}
use Rattle.connection_search.proofs.DecidingLaws.{early-members, tried-of}
use Rattle.search_tree.proofs.DistinctStores.{distinct-own, well-ranked}
use Rattle.search_tree.proofs.MoveLaws.{goal-here}
use Rattle.search_tree.proofs.RunningLaws.{clause-at, running-ground}
use Rattle.connection_search.proofs.SearchedLaws.{starts-next, starts_from}
use Rattle.connection_search.proofs.SpentLaws.{none-open, stands-live}
use Rattle.connection_search.proofs.StackedLaws.{before-same, mark-itself, point-back, point-kept, point-next, untried-moved}
use Rattle.connection_search.proofs.TryingLaws.{next-falls, next-none, next-some}
use Rattle.std.proofs.Math.Nat.{mul-le-mul_right}
use Rattle.plain_laws.proofs.Places.{take-less}
use Rattle.search_theory.proofs.BeginningLaws.{not-empty-behind}
use Rattle.connection_search.proofs.VisitLaws.{mark-later}

-- ---- sound lists

-- where no goal is the same as one above it, the list of a state is sound
pub running-sound : (P : Problem) (base d : ℕ) (c : List Choice) (S : State) (y : _) → IsRunning P base d c S y → HasNoSamePair S → IsRegularLive P d c
running-sound P base d c S y h new =
    let (σ, number, distinct, ground) = running-ground P base d c S y h in
    sound-state P d c S σ h.state ground (regular-by_distinct (λ r. base ≤ r) S (rank_of S.store) (suc (length S.store.cells)) σ number h.well.fits (well-ranked S.store h.well) distinct h.goals new)

pub stands-sound : (P : Problem) (m : List MatrixClause) (base d : ℕ) (c : List Choice) (s : Store) (steps : List Step) (goals : List Goal) (first : Option ℕ) → StandsFor P m base d c s steps goals first → ((cs : List CellChoice) (x : CellGrowth) → IsAt P m base d c s steps goals first cs x → HasNoSamePair (record { store = s; choices = cs; growth = x })) → IsRegularLive P d c
stands-sound P m base d c s steps goals first (cs, x, at) new = running-sound P base d c (record { store = s; choices = cs; growth = x }) (tree_system m steps goals x.all_goals) at.running (new cs x at)

-- so is the list of a start
stands-start : (P : Problem) (m : List MatrixClause) (base d : ℕ) (sides : List Side) (s : Store) (steps : List Step) (goals : List Goal) (first : Option ℕ) → StandsFor P m base d (start sides ∷ []) s steps goals first → IsRegularLive P d (start sides ∷ [])
stands-start P m base d sides s steps goals first (cs, x, at) =
    let S : State = record { store = s; choices = cs; growth = x } in
    let (σ, number, distinct, ground) = running-ground P base d (start sides ∷ []) S (tree_system m steps goals x.all_goals) at.running in
    sound-start P d sides S σ at.running.state ground

-- how deep its open goals lie
stands-depths : (P : Problem) (m : List MatrixClause) (base d : ℕ) (c : List Choice) (s : Store) (steps : List Step) (goals : List Goal) (first : Option ℕ) → (h : StandsFor P m base d c s steps goals first) → cell_path_lengths h.1.open_goals ≡ open_depths P c
stands-depths P m base d c s steps goals first (cs, x, at) =
    let S : State = record { store = s; choices = cs; growth = x } in
    let (σ, number, distinct, ground) = running-ground P base d c S (tree_system m steps goals x.all_goals) at.running in
    state-depths P d c S σ at.running.state ground

-- none is longer than the limit
stands-short : (P : Problem) (m : List MatrixClause) (base d : ℕ) (c : List Choice) (s : Store) (steps : List Step) (goals : List Goal) (goal : ℕ) (g : CellGoal) → IsAtGoal P m base d c s steps goals goal g → length g.path ≤ d
stands-short P m base d c s steps goals goal g at =
    let S : State = record { store = s; choices = at.made; growth = record { open_goals = g ∷ at.behind; all_goals = at.every; depths = at.depths } } in
    let (σ, number, distinct, ground) = running-ground P base d c S (tree_system m steps goals at.every) at.at.running in
    (state-short P d c S σ at.at.running.state ground).0

-- ---- the points of the levels

pub level-points-kept : (P : Problem) (m : List MatrixClause) (base d : ℕ) (s t : Store) (steps after : List Step) (goals all : List Goal) (points : List Point) (ls : List Level) → KeepsMarks s t → KeepsTree steps goals after all → AreLevelPoints P m base d s steps goals points ls → AreLevelPoints P m base d t after all points ls
level-points-kept P m base d s t steps after goals all [] [] marks kept h = h
level-points-kept P m base d s t steps after goals all [] (l ∷ ls) marks kept h = absurd h
level-points-kept P m base d s t steps after goals all (p ∷ points) [] marks kept h = absurd h
level-points-kept P m base d s t steps after goals all (p ∷ points) (l ∷ ls) marks kept (g, h, before, rest) = (g, point-kept P m base d s t steps after goals all p l.before l.rest g marks kept h, before, level-points-kept P m base d s t steps after goals all points ls marks kept rest)

level-points-back : (P : Problem) (m : List MatrixClause) (base d : ℕ) (s : Store) (steps : List Step) (goals : List Goal) (p : Point) (points : List Point) (ls : List Level) → AllByRecursion (IsBefore p) points → AreLevelPoints P m base d s steps goals points ls → AreLevelPoints P m base d (cut_at (the_mark p.mark) s) (take p.steps steps) (take p.goals goals) points ls
level-points-back P m base d s steps goals p [] [] b h = h
level-points-back P m base d s steps goals p [] (l ∷ ls) b h = absurd h
level-points-back P m base d s steps goals p (q ∷ points) [] b h = absurd h
level-points-back P m base d s steps goals p (q ∷ points) (l ∷ ls) b (g, h, before, rest) = (g, point-back P m base d s steps goals p q l.before l.rest g b.0 h, before, level-points-back P m base d s steps goals p points ls b.1 rest)

-- the points of the levels behind the first ones
level-points-less : (P : Problem) (m : List MatrixClause) (base d : ℕ) (s : Store) (steps : List Step) (goals : List Goal) (points : List Point) (solved others : List Level) → AreLevelPoints P m base d s steps goals points (solved ++ others) → AreLevelPoints P m base d s steps goals (drop (length solved) points) others × (length points ≡ length solved + length others)
level-points-less P m base d s steps goals [] [] [] h = (h, refl)
level-points-less P m base d s steps goals [] [] (l ∷ others) h = absurd h
level-points-less P m base d s steps goals (p ∷ points) [] [] h = absurd h
level-points-less P m base d s steps goals (p ∷ points) [] (l ∷ others) (g, h, before, rest) =
    let r = level-points-less P m base d s steps goals points [] others rest in
    let n = r.1 in
    ((g, h, before, rest), omega (arith, n))
level-points-less P m base d s steps goals [] (l ∷ solved) others h = absurd h
level-points-less P m base d s steps goals (p ∷ points) (l ∷ solved) others (g, h, before, rest) = let r = level-points-less P m base d s steps goals points solved others rest in let n = r.1 in (r.0, omega (arith, n))

level-points-before : (P : Problem) (m : List MatrixClause) (base d : ℕ) (s : Store) (steps : List Step) (goals : List Goal) (first : Option ℕ) (p : Point) (points : List Point) (ls : List Level) → IsHere p s steps goals first → AreLevelPoints P m base d s steps goals points ls → AllByRecursion (IsBefore p) points
level-points-before P m base d s steps goals first p [] ls h k = tt
level-points-before P m base d s steps goals first p (q ∷ points) [] h k = absurd k
level-points-before P m base d s steps goals first p (q ∷ points) (l ∷ ls) h (g, point, before, rest) =
    let a = point.steps_within in
    let b = h.steps_are in
    let x = point.goals_within in
    let y = h.goals_are in (
      record { marks = mark-later (the_mark q.mark) (the_mark p.mark) s point.good h.whole; steps = omega (arith, a, b); goals = omega (arith, x, y) },
      level-points-before P m base d s steps goals first p points ls h rest,
    )

-- the first points are the last ones of the reversed list
reverse-take : {A : Type 0} (xs : List A) (n k : ℕ) → length xs ≡ n + k → reverse (take k xs) ≡ drop n (reverse xs)
reverse-take xs n k e =
    let rest : length (reverse (drop k xs)) ≡ n = length-reverse (drop k xs) ∙ length-drop k xs ∙ by (length xs) e in
    sym (ap (λ i. drop i (reverse xs)) (sym rest) ∙ ap (λ ys. drop (length (reverse (drop k xs))) ys) (ap reverse (sym (take-append-drop k xs)) ∙ reverse-append (take k xs) (drop k xs)) ∙ drop-front (reverse (drop k xs)) (reverse (take k xs)))
  where
    by : (l : ℕ) → l ≡ n + k → l - k ≡ n
    by l f = omega (arith, f)

pending-append : (xs ys : List Level) → pending_on (xs ++ ys) ≡ pending_on xs ++ pending_on ys
pending-append [] ys = refl
pending-append (x ∷ xs) ys = ap (λ ps. behind x.before x.rest ++ ps) (pending-append xs ys) ∙ sym (append_assoc (behind x.before x.rest) (pending_on xs) (pending_on ys))

-- ---- counts

counted-many : (P : Problem) (d : ℕ) (spent : List _) (pending : List (List Choice)) (begun used : ℕ) → Passes P d spent pending → begun ≤ used → used ≤ begun + length spent → IsCountedAt P d begun used
counted-many P d spent pending begun used h a e =
    let (xs, are, l) = passes-many P d spent pending h in
    (a, (xs, are, omega (arith, a, e, l)))

pub passing-counted : (P : Problem) (d : ℕ) (pending : List (List Choice)) (begun used : ℕ) → IsPassing P d pending begun used → IsCountedAt P d begun used
passing-counted P d pending begun used h = counted-many P d h.spent pending begun used h.passes h.from h.count

-- a list that is left out, at the front
passing-less : (P : Problem) (d : ℕ) (xs ps : List (List Choice)) (begun used : ℕ) → IsPassing P d (xs ++ ps) begun used → IsPassing P d ps begun used
passing-less P d xs ps begun used h = record { spent = h.spent; passes = passes-less P d h.spent xs ps h.passes; from = h.from; count = h.count }

pub passing-next : (P : Problem) (d : ℕ) (p : List Choice) (ps : List (List Choice)) (begun used : ℕ) → IsPassing P d (p ∷ ps) begun used → IsPassing P d ps begun used
passing-next P d p ps begun used h = passing-less P d (p ∷ []) ps begun used h

-- a step is spent for the first list
passing-visit : (P : Problem) (d : ℕ) (p : List Choice) (ps : List (List Choice)) (xs : List Choice) (begun used after : ℕ) → IsPassing P d (p ∷ ps) begun used → 1 ≤ d → IsLive P d p → IsRising choice_cmp xs → after ≡ used + 1 → IsPassing P d (behind p xs ++ ps) begun after
passing-visit P d p ps xs begun used after h from live r k = record {
  spent = h.spent ++ with_choices d p ∷ [];
  passes = passes-visit P d h.spent p ps xs h.passes from live r;
  from = let e = h.from in omega (arith, e, k);
  count = let e = h.count in let l = length-append h.spent (with_choices d p ∷ []) in omega (arith, e, k, l);
}

pub passing-one : (P : Problem) (d : ℕ) (p : List Choice) (ps : List (List Choice)) (begun used after : ℕ) → IsPassing P d (p ∷ ps) begun used → 1 ≤ d → IsLive P d p → after ≡ used + 1 → IsCountedAt P d begun after
passing-one P d p ps begun used after h from live k = passing-counted P d (behind p [] ++ ps) begun after (passing-visit P d p ps [] begun used after h from live tt k)

-- no step is left for it
pub passing-ended : (P : Problem) (d : ℕ) (p : List Choice) (ps : List (List Choice)) (begun used after budget : ℕ) → IsPassing P d (p ∷ ps) begun used → 1 ≤ d → IsLive P d p → after ≡ used → after ≡ budget → IsCutEnded P d begun after budget
passing-ended P d p ps begun used after budget h from live k e =
    let (xs, are, l) = passes-ended P d h.spent p ps h.passes from live in
    let a = h.from in
    let n = h.count in
    (e, (xs, are, omega (arith, k, a, n, l)))

-- ---- the same tree

pub kept-in : (before now : Tree) (steps : List Step) (goals : List Goal) → now ≡ before → KeepsTree steps goals before.steps.items before.goals.items → KeepsTree steps goals now.steps.items now.goals.items
kept-in before now steps goals e h = subst (λ (t : Tree). KeepsTree steps goals t.steps.items t.goals.items) (sym e) h

pub stands-in : (P : Problem) (m : List MatrixClause) (base d : ℕ) (c : List Choice) (s : Store) (before now : Tree) → now ≡ before → StandsFor P m base d c s before.steps.items before.goals.items before.open → StandsFor P m base d c s now.steps.items now.goals.items now.open
stands-in P m base d c s before now e h = subst (λ (t : Tree). StandsFor P m base d c s t.steps.items t.goals.items t.open) (sym e) h

-- ---- back at the last point

pub record IsCutBack (P : Problem) (m : List MatrixClause) (base d : ℕ) (sides : List Side) (s : Store) (steps : List Step) (goals : List Goal) (p : Point) (points : List Point) (later : List (List Choice)) (begun used : ℕ) (left : Bool) : Type 0 where
  pub level : Level
  pub levels : List Level
  pub goal : CellGoal
  pub trying : (e : ℕ) → IsToldOf d left e → cutting.IsTrying P e sides levels level.waiting level.before level.rest
  pub at : IsAtGoal P m base d level.before s steps goals p.goal goal
  pub has : HasUntried m d steps goals p goal level.rest
  pub whole_steps : take p.steps steps ≡ steps
  pub whole_goals : take p.goals goals ≡ goals
  pub point : IsPoint P m base d s steps goals p level.before level.rest goal
  pub before : AllByRecursion (IsBefore p) points
  pub others : AreLevelPoints P m base d s steps goals points levels
  pub passing : IsPassing P d (behind level.before level.rest ++ (pending_on levels ++ later)) begun used

cut-back-moved : (P : Problem) (m : List MatrixClause) (base d : ℕ) (sides : List Side) (s t : Store) (steps after : List Step) (goals all : List Goal) (p : Point) (points : List Point) (later : List (List Choice)) (begun used : ℕ) (left : Bool) → t ≡ s → after ≡ steps → all ≡ goals → IsCutBack P m base d sides s steps goals p points later begun used left → IsCutBack P m base d sides t after all p points later begun used left
cut-back-moved P m base d sides s t steps after goals all p points later begun used left es ea eb h = rw (es, ea, eb) h

last-level : (P : Problem) (m : List MatrixClause) (base d : ℕ) (sides : List Side) (s : Store) (steps : List Step) (goals : List Goal) (p : Point) (points : List Point) (ls : List Level) (later : List (List Choice)) (begun used : ℕ) (left : Bool) → ((e : ℕ) → IsToldOf d left e → IsNext P e sides ls) → AreLevelPoints P m base d s steps goals (p ∷ points) ls → IsPassing P d (pending_on ls ++ later) begun used → IsCutBack P m base d sides (cut_at (the_mark p.mark) s) (take p.steps steps) (take p.goals goals) p points later begun used left
last-level P m base d sides s steps goals p points [] later begun used left next k passing = absurd k
last-level P m base d sides s steps goals p points (l ∷ ls) later begun used left next (g, h, before, rest) passing =
    let itself : IsBefore p p = record { marks = mark-itself (the_mark p.mark); steps = omega arith; goals = omega arith } in
    record {
      level = l;
      levels = ls;
      goal = g;
      trying = next;
      at = h.at;
      has = h.choices;
      whole_steps = take-less p.steps p.steps steps (omega arith);
      whole_goals = take-less p.goals p.goals goals (omega arith);
      point = point-back P m base d s steps goals p p l.before l.rest g itself h;
      before = before;
      others = level-points-back P m base d s steps goals p points ls before rest;
      passing = subst (λ xs. IsPassing P d xs begun used) (append_assoc (behind l.before l.rest) (pending_on ls) later) passing;
    }

pub cut-back-at : (P : Problem) (m : List MatrixClause) (base d : ℕ) (sides : List Side) (s t : Store) (steps after : List Step) (goals all : List Goal) (points : List Point) (p : Point) (later : List (List Choice)) (begun used : ℕ) (left : Bool) → IsCutExploring P m base d sides s steps goals (points ++ p ∷ []) later begun used left → t ≡ cut_at (the_mark p.mark) s → after ≡ take p.steps steps → all ≡ take p.goals goals → IsCutBack P m base d sides t after all p (reverse points) later begun used left
cut-back-at P m base d sides s t steps after goals all points p later begun used left h es ea eb =
    cut-back-moved P m base d sides (cut_at (the_mark p.mark) s) t (take p.steps steps) after (take p.goals goals) all p (reverse points) later begun used left es ea eb
    (last-level P m base d sides s steps goals p (reverse points) h.levels later begun used left h.next (subst (λ ps. AreLevelPoints P m base d s steps goals ps h.levels) (reverse-append points (p ∷ [])) h.points) h.passing)

pub cut-last-good : (P : Problem) (m : List MatrixClause) (base d : ℕ) (sides : List Side) (s : Store) (steps : List Step) (goals : List Goal) (points : List Point) (p : Point) (later : List (List Choice)) (begun used : ℕ) (left : Bool) → IsCutExploring P m base d sides s steps goals (points ++ p ∷ []) later begun used left → IsGood (the_mark p.mark) s
cut-last-good P m base d sides s steps goals points p later begun used left h = by h.levels (subst (λ ps. AreLevelPoints P m base d s steps goals ps h.levels) (reverse-append points (p ∷ [])) h.points)
  where
    by : (ls : List Level) → AreLevelPoints P m base d s steps goals (p ∷ reverse points) ls → IsGood (the_mark p.mark) s
    by [] k = absurd k
    by (l ∷ ls) (g, point, before, rest) = point.good

-- no choice is left: the goal is not solved, and the choice above fails
cut-none-left : (P : Problem) (m : List MatrixClause) (base d : ℕ) (sides : List Side) (s : Store) (steps : List Step) (goals : List Goal) (points : List Point) (p : Point) (later : List (List Choice)) (begun used : ℕ) (left : Bool) → (h : IsCutBack P m base d sides s steps goals p (reverse points) later begun used left) → h.level.rest ≡ [] → IsCutExploring P m base d sides s steps goals points later begun used left
cut-none-left P m base d sides s steps goals points p later begun used left h e = record {
  levels = h.levels;
  next = λ f told. trying-failed P f sides h.levels h.level.waiting h.level.before (subst (cutting.IsTrying P f sides h.levels h.level.waiting h.level.before) e (h.trying f told));
  points = h.others;
  passing = passing-less P d (behind h.level.before h.level.rest) (pending_on h.levels ++ later) begun used h.passing;
}

-- ---- the next choice

-- this choice comes next, at a goal that stands there; the points on the stack are the last one first
pub record IsCutTrying (P : Problem) (m : List MatrixClause) (base d : ℕ) (sides : List Side) (s : Store) (steps : List Step) (goals : List Goal) (stack : List Point) (later : List (List Choice)) (begun used : ℕ) (left : Bool) (goal : ℕ) (choice : Move) : Type 0 where
  pub before : List Choice
  pub rest : List Choice
  pub waiting : ℕ
  pub levels : List Level
  pub at_goal : CellGoal
  pub trying : (e : ℕ) → IsToldOf d left e → cutting.IsTrying P e sides levels waiting before (the_move m choice ∷ rest)
  pub at : IsAtGoal P m base d before s steps goals goal at_goal
  pub move : IsMoveAt m d steps goals at_goal choice
  pub points : AreLevelPoints P m base d s steps goals stack (record { before = before; choice = the_move m choice; rest = rest; waiting = waiting } ∷ levels)
  pub passing : IsPassing P d ((before ++ the_move m choice ∷ []) ∷ (behind before rest ++ pending_on levels) ++ later) begun used

cut-next-tried : (P : Problem) (m : List MatrixClause) (base d : ℕ) (sides : List Side) (s : Store) (steps : List Step) (goals : List Goal) (points stack : List Point) (p q : Point) (later : List (List Choice)) (begun used : ℕ) (left : Bool) (choice : Move) → stack ≡ points ++ q ∷ [] → IsSamePoint p q → (h : IsCutBack P m base d sides s steps goals p (reverse points) later begun used left) → IsMoveAt m d steps goals h.goal choice × ((rest : List Choice) × (h.level.rest ≡ the_move m choice ∷ rest) × HasUntried m d steps goals q h.goal rest) → IsCutTrying P m base d sides s steps goals (reverse stack) later begun used left q.goal choice
cut-next-tried P m base d sides s steps goals points stack p q later begun used left choice is same h (move, (rest, e, has)) =
    let left_over : HasUntried m d (take p.steps steps) (take p.goals goals) q h.goal rest = untried-moved m d steps (take p.steps steps) goals (take p.goals goals) q h.goal rest h.whole_steps h.whole_goals has in
    let ls : List Level = record { before = h.level.before; choice = the_move m choice; rest = rest; waiting = h.level.waiting } ∷ h.levels in
    let stacked : AreLevelPoints P m base d s steps goals (q ∷ reverse points) ls = (h.goal, point-next P m base d s steps goals p q h.level.before h.level.rest rest h.goal h.point same left_over, before-same p q (reverse points) same h.before, h.others) in
    record {
      before = h.level.before;
      rest = rest;
      waiting = h.level.waiting;
      levels = h.levels;
      at_goal = h.goal;
      trying = λ f told. subst (cutting.IsTrying P f sides h.levels h.level.waiting h.level.before) e (h.trying f told);
      at = subst (λ n. IsAtGoal P m base d h.level.before s steps goals n h.goal) (sym same.goal) h.at;
      move = move;
      points = subst (λ ps. AreLevelPoints P m base d s steps goals ps ls) (sym (ap reverse is ∙ reverse-append points (q ∷ []))) stacked;
      passing = subst (λ xs. IsPassing P d xs begun used) (ap (λ xs. behind h.level.before xs ++ (pending_on h.levels ++ later)) e ∙ ap (λ xs. (h.level.before ++ the_move m choice ∷ []) ∷ xs) (sym (append_assoc (behind h.level.before rest) (pending_on h.levels) later))) h.passing;
    }

pub cut-tried-at : (P : Problem) (m : List MatrixClause) (base d : ℕ) (sides : List Side) (s t : Store) (steps after : List Step) (goals all : List Goal) (points stack : List Point) (p q : Point) (later : List (List Choice)) (begun used : ℕ) (left : Bool) (o : Option Move) (choice : Move) → t ≡ cut_at (the_mark p.mark) s → after ≡ take p.steps steps → all ≡ take p.goals goals → stack ≡ points ++ q ∷ [] → IsSamePoint p q → ((d : ℕ) (g : CellGoal) (untried : List Choice) → IsGoalAt after all p.goal g → HasUntried m d after all p g untried → MatchOption o (untried ≡ []) (λ x. IsMoveAt m d after all g x × ((rest : List Choice) × (untried ≡ the_move m x ∷ rest) × HasUntried m d after all q g rest))) → o ≡ Some choice → IsCutExploring P m base d sides s steps goals (points ++ p ∷ []) later begun used left → IsCutTrying P m base d sides t after all (reverse stack) later begun used left q.goal choice
cut-tried-at P m base d sides s t steps after goals all points stack p q later begun used left o choice es ea eb is same next some h =
    let b = cut-back-at P m base d sides s t steps after goals all points p later begun used left h es ea eb in
    cut-next-tried P m base d sides t after all points stack p q later begun used left choice is same b
    (next-some m d after all q b.goal b.level.rest o choice (next d b.goal b.level.rest (goal-here P m base d b.level.before t after all p.goal b.goal b.at) b.has) some)

pub cut-none-at : (P : Problem) (m : List MatrixClause) (base d : ℕ) (sides : List Side) (s t : Store) (steps after : List Step) (goals all : List Goal) (points : List Point) (p q : Point) (later : List (List Choice)) (begun used : ℕ) (left : Bool) (o : Option Move) → t ≡ cut_at (the_mark p.mark) s → after ≡ take p.steps steps → all ≡ take p.goals goals → ((d : ℕ) (g : CellGoal) (untried : List Choice) → IsGoalAt after all p.goal g → HasUntried m d after all p g untried → MatchOption o (untried ≡ []) (λ x. IsMoveAt m d after all g x × ((rest : List Choice) × (untried ≡ the_move m x ∷ rest) × HasUntried m d after all q g rest))) → o ≡ None → IsCutExploring P m base d sides s steps goals (points ++ p ∷ []) later begun used left → IsCutExploring P m base d sides t after all points later begun used left
cut-none-at P m base d sides s t steps after goals all points p q later begun used left o es ea eb next none h =
    let b = cut-back-at P m base d sides s t steps after goals all points p later begun used left h es ea eb in
    cut-none-left P m base d sides t after all points p later begun used left b
    (next-none m d after all q b.goal b.level.rest o (next d b.goal b.level.rest (goal-here P m base d b.level.before t after all p.goal b.goal b.at) b.has) none)

-- the choice cannot be made, or its tree is irregular
pub cut-refused : (P : Problem) (m : List MatrixClause) (base d : ℕ) (sides : List Side) (s t : Store) (steps after : List Step) (goals all : List Goal) (points : List Point) (later : List (List Choice)) (begun used : ℕ) (left : Bool) (goal : ℕ) (choice : Move) → (h : IsCutTrying P m base d sides s steps goals (reverse points) later begun used left goal choice) → KeepsMarks s t → KeepsTree steps goals after all → IsDead P (h.before ++ the_move m choice ∷ []) → IsCutExploring P m base d sides t after all points later begun used left
cut-refused P m base d sides s t steps after goals all points later begun used left goal choice h marks kept dead = record {
  levels = record { before = h.before; choice = the_move m choice; rest = h.rest; waiting = h.waiting } ∷ h.levels;
  next = λ e told. trying-less P e sides h.levels h.waiting h.before (the_move m choice) h.rest (h.trying e told) (λ live. absurd (dead-unsound P e (h.before ++ the_move m choice ∷ []) dead live));
  points = level-points-kept P m base d s t steps after goals all (reverse points) _ marks kept h.points;
  passing = passing-next P d (h.before ++ the_move m choice ∷ []) ((behind h.before h.rest ++ pending_on h.levels) ++ later) begun used h.passing;
}

no-start : (m : List MatrixClause) (choice : Move) → is_start (the_move m choice) ≡ false
no-start m (Reduce up ancestor) = refl
no-start m (Extend place) = refl

-- it was made, and its tree is regular
pub cut-made : (P : Problem) (m : List MatrixClause) (base d : ℕ) (sides : List Side) (s t : Store) (steps after : List Step) (goals all : List Goal) (first : Option ℕ) (points : List Point) (later : List (List Choice)) (begun used : ℕ) (left : Bool) (goal : ℕ) (choice : Move) → (h : IsCutTrying P m base d sides s steps goals (reverse points) later begun used left goal choice) → KeepsMarks s t → KeepsTree steps goals after all → StandsFor P m base d (h.before ++ the_move m choice ∷ []) t after all first → IsRegularLive P d (h.before ++ the_move m choice ∷ []) → IsCutVisiting P m base d sides t after all first points later begun used left
cut-made P m base d sides s t steps after goals all first points later begun used left goal choice h marks kept stands sound = record {
  choices = h.before ++ the_move m choice ∷ [];
  stands = stands;
  not_empty = not-empty-behind h.before (the_move m choice);
  sound = sound;
  levels = record { before = h.before; choice = the_move m choice; rest = h.rest; waiting = h.waiting } ∷ h.levels;
  goals_left = goals_added P (the_move m choice);
  solving = λ e told. trying-next P e sides h.levels h.waiting h.before (the_move m choice) h.rest (h.trying e told) (no-start m choice) (sound-more P d e (h.before ++ the_move m choice ∷ []) (told-from d e left told) sound);
  points = level-points-kept P m base d s t steps after goals all (reverse points) _ marks kept h.points;
  passing = h.passing;
}

-- ---- a list with an open goal

-- the goals that are solved give up their points, and the choices of the leftmost open goal come next
pub cut-visit-goal : (P : Problem) (m : List MatrixClause) (base d : ℕ) (sides : List Side) (s : Store) (steps : List Step) (goals : List Goal) (first : Option ℕ) (points : List Point) (later : List (List Choice)) (begun used after : ℕ) (known left : Bool) (goal : ℕ) (g : CellGoal) (p : Point) (k : ℕ) → IsSpace P m d → (v : IsCutVisiting P m base d sides s steps goals first points later begun used known) → IsAtGoal P m base d v.choices s steps goals goal g → IsLeftFound P d v.choices g known left → IsPoint P m base d s steps goals p v.choices (choices_at m d g) g → IsHere p s steps goals (Some goal) → k ≡ length g.path → after ≡ used + 1 → IsCutExploring P m base d sides s steps goals (take k points ++ p ∷ []) later begun after left
cut-visit-goal P m base d sides s steps goals first points later begun used after known left goal g p k space v at found point here deep step =
    let depths = stands-depths P m base d v.choices s steps goals (Some goal) (at.made, record { open_goals = g ∷ at.behind; all_goals = at.every; depths = at.depths }, at.at) in
    let se = settled P d left sides v.levels v.goals_left v.choices (length g.path) (cell_path_lengths at.behind) (λ e told. v.solving e (told-before d e known left found.unknown told)) (levels-depths P d sides v.levels v.goals_left v.choices (v.solving d (told-itself d known)) ∙ sym depths) in
    let less = level-points-less P m base d s steps goals (reverse points) se.solved se.others (subst (AreLevelPoints P m base d s steps goals (reverse points)) se.are_all v.points) in
    let many : length points ≡ length se.solved + k = sym (length-reverse points) ∙ less.1 ∙ ap (λ n. length se.solved + n) (se.long ∙ sym deep) in
    let kept : AreLevelPoints P m base d s steps goals (reverse (take k points)) se.others = subst (λ ps. AreLevelPoints P m base d s steps goals ps se.others) (sym (reverse-take points (length se.solved) k many)) less.0 in
    let xs = choices_at m d g in
    let rises = choices-rise P m d g space.matrix.matrix in
    let live = stands-live P m base d v.choices s steps goals first v.stands in
    let all : v.choices ∷ pending_on v.levels ++ later ≡ v.choices ∷ pending_on se.solved ++ (pending_on se.others ++ later) = ap (λ ls. v.choices ∷ pending_on ls ++ later) se.are_all ∙ ap (λ ps. v.choices ∷ ps ++ later) (pending-append se.solved se.others) ∙ ap (λ ps. v.choices ∷ ps) (append_assoc (pending_on se.solved) (pending_on se.others) later) in
    let q = subst (λ ps. IsPassing P d ps begun used) all v.passing in
    let fewer : IsPassing P d (v.choices ∷ pending_on se.others ++ later) begun used = record { spent = q.spent; passes = passes-keep P d q.spent v.choices (pending_on se.solved) (pending_on se.others ++ later) q.passes; from = q.from; count = q.count } in
    record {
      levels = record { before = v.choices; choice = reduction 0; rest = xs; waiting = se.waiting } ∷ se.others;
      next = λ e told. trying-first P d e left sides v.levels (length g.path) v.choices xs se told rises (untried-told P m d e left v.choices s at.made g at.behind at.every at.depths space.matrix.matrix at.at.running.state v.not_empty (stands-short P m base d v.choices s steps goals goal g at) found.dead told);
      points = subst (λ ps. AreLevelPoints P m base d s steps goals ps (record { before = v.choices; choice = reduction 0; rest = xs; waiting = se.waiting } ∷ se.others)) (sym (reverse-append (take k points) (p ∷ [])))
          (g, point, level-points-before P m base d s steps goals (Some goal) p (reverse (take k points)) se.others here kept, kept);
      passing = subst (λ ps. IsPassing P d ps begun after) (sym (append_assoc (behind v.choices xs) (pending_on se.others) later)) (passing-visit P d v.choices (pending_on se.others ++ later) xs begun used after fewer space.from_one live rises step);
    }

-- ---- a list without open goals

-- all goals of the start are solved
pub cut-solved : (P : Problem) (m : List MatrixClause) (base d : ℕ) (sides : List Side) (s : Store) (steps : List Step) (goals : List Goal) (first : Option ℕ) (points : List Point) (later : List (List Choice)) (begun used : ℕ) (left : Bool) (l : ℕ) → (v : IsCutVisiting P m base d sides s steps goals first points later begun used left) → first ≡ None → IsToldOf d left l → Fills P l (clause_size P sides) (start sides ∷ []) v.choices
cut-solved P m base d sides s steps goals first points later begun used left l v e told =
    let none = none-open steps goals first v.stands.1.open_goals v.stands.2.tree.open_goals e in
    let depths = stands-depths P m base d v.choices s steps goals first v.stands in
    let solving = v.solving l told in
    all-solved P l sides v.levels v.goals_left v.choices solving (levels-depths P l sides v.levels v.goals_left v.choices solving ∙ sym depths ∙ ap cell_path_lengths none)

module _ (P : Problem) (m : List MatrixClause) (base d : ℕ) (sides : List Side) (s : Store) (steps : List Step) (goals : List Goal) (first : Option ℕ) (points : List Point) (later : List (List Choice)) (begun used mid after : ℕ) (left : Bool) (space : IsSpace P m d) (v : IsCutVisiting P m base d sides s steps goals first points later begun used left) (whole : first ≡ None) (taken : mid ≡ used + 1) where
  -- steps were used for these lists of lengths
  tried-passing : (xs : List (List ℕ)) (then : ℕ) → IsRising lengths_cmp xs → AllByRecursion (λ ns. IsMemberAt P d (with_lengths d v.choices ns)) xs → mid ≤ then → then ≤ mid + length xs → IsPassing P d (pending_on v.levels ++ later) begun then
  tried-passing xs then rising members f n =
      let a = v.passing.from in
      let b = v.passing.count in
      let l = length-append v.passing.spent (with_choices d v.choices ∷ map (with_lengths d v.choices) xs) in
      let q = length-map xs (with_lengths d v.choices) in
      record {
        spent = v.passing.spent ++ with_choices d v.choices ∷ map (with_lengths d v.choices) xs;
        passes = passes-lengths P d v.passing.spent v.choices (pending_on v.levels ++ later) xs v.passing.passes space.from_one (stands-live P m base d v.choices s steps goals first v.stands) rising members;
        from = omega (arith, a, f, taken);
        count = omega (arith, b, n, taken, l, q);
      }

  solving-passing : IsSolving P m s steps goals mid after → IsPassing P d (pending_on v.levels ++ later) begun after
  solving-passing k =
      let t = tried-of P m base d v.choices s steps goals first v.stands whole space.from_one mid after k in
      tried-passing t.tried after t.rising t.members t.from t.count

  pub cut-counted : IsSolving P m s steps goals mid after → IsCountedAt P d begun after
  cut-counted k = passing-counted P d (pending_on v.levels ++ later) begun after (solving-passing k)

  -- no closed tableau has the list, and the start fails
  pub cut-undecided : (t : Store) → IsSolving P m s steps goals mid after → ¬ IsClosedList P d v.choices → IsCutExploring P m base d sides t steps goals [] later begun after left
  cut-undecided t k none = record {
    levels = [];
    next = λ e told. fails-whole_beyond P d e sides v.choices (cut-solved P m base d sides s steps goals first points later begun used left e v whole told) (stands-live P m base d v.choices s steps goals first v.stands) none;
    points = tt;
    passing = passing-less P d (pending_on v.levels) later begun after (solving-passing k);
  }

  pub cut-ended : (budget : ℕ) → IsSolving P m s steps goals mid after → IsEnded P m s steps goals mid after budget → IsCutEnded P d begun after budget
  cut-ended budget k e =
      let from = (k.counted v.stands.1.all_goals v.stands.2.tree.goals).from in
      let (xs, are, n) = e.more_early v.stands.1.all_goals v.stands.2.tree.goals in
      let h = tried-passing xs (mid + length xs) are.rising (early-members P m base d v.choices s steps goals first v.stands whole space.from_one e.labels xs are.members) (omega arith) (omega arith) in
      let (ms, many, l) = passes-many P d h.spent (pending_on v.levels ++ later) h.passes in
      let c = h.count in
      let a = v.passing.from in
      (e.ended, (ms, many, omega (arith, from, n, l, c, a, taken)))

-- the tableau of the list
pub cut-closed : (P : Problem) (m : List MatrixClause) (base d : ℕ) (sides : List Side) (s : Store) (steps : List Step) (goals : List Goal) (first : Option ℕ) (points : List Point) (later : List (List Choice)) (begun used : ℕ) (left : Bool) (t : _) → (v : IsCutVisiting P m base d sides s steps goals first points later begun used left) → first ≡ None → IsTrue (is_closed P d (the_tableau t)) → choices_of (ground_choices (the_tableau t)) ≡ v.choices → Cuts P d sides v.choices (the_tableau t)
cut-closed P m base d sides s steps goals first points later begun used left t v whole closed reached = record { solved = cut-solved P m base d sides s steps goals first points later begun used left d v whole (told-itself d left); closed = closed; reached = reached }

-- the same, at equal places
pub cut-exploring-moved : (P : Problem) (m : List MatrixClause) (base d : ℕ) (sides : List Side) (old new : Store) (steps after : List Step) (goals all : List Goal) (points : List Point) (later : List (List Choice)) (begun used : ℕ) (left : Bool) → new ≡ old → after ≡ steps → all ≡ goals → IsCutExploring P m base d sides old steps goals points later begun used left → IsCutExploring P m base d sides new after all points later begun used left
cut-exploring-moved P m base d sides old new steps after goals all points later begun used left es ea eb h = rw (es, ea, eb) h

-- ---- the end of a start

-- nothing is left on the stack
pub cut-failed : (P : Problem) (m : List MatrixClause) (base d : ℕ) (sides : List Side) (s : Store) (steps : List Step) (goals : List Goal) (points : List Point) (later : List (List Choice)) (begun used : ℕ) (left : Bool) → IsCutExploring P m base d sides s steps goals points later begun used left → points ≡ [] → IsCutFailed P d sides later begun used left
cut-failed P m base d sides s steps goals points later begun used left h e = by h.levels h.next (subst (λ ps. AreLevelPoints P m base d s steps goals (reverse ps) h.levels) e h.points) h.passing
  where
    by : (ls : List Level) → ((f : ℕ) → IsToldOf d left f → IsNext P f sides ls) → AreLevelPoints P m base d s steps goals [] ls → IsPassing P d (pending_on ls ++ later) begun used → IsCutFailed P d sides later begun used left
    by [] next k passing = (next, passing)
    by (l ∷ ls) next k passing = absurd k

-- ---- starts

-- before the first clause
pub passing-first : (P : Problem) (m : List MatrixClause) (d used : ℕ) → IsTemplateMatrix P m → IsPassing P d (starts_from m 0) used used
passing-first P m d used h = record {
  spent = [];
  passes = subst (λ sss. Passes P d [] (behind [] (starting sss))) (sym h.in_order) (passes-start P d (starting (selections P.formula F)) (starting-rises (selections P.formula F) (selections-rise P.formula F)));
  from = omega arith;
  count = omega arith;
}

-- before each clause, which has the number i
pub passing-start : (P : Problem) (m : List MatrixClause) (d k i begun used : ℕ) → k < length m → i ≡ k → IsPassing P d (starts_from m k) begun used → IsPassing P d ((start (selection_of (slice_get m i)) ∷ []) ∷ starts_from m (k + 1)) begun used
passing-start P m d k i begun used l e h = subst (λ n. IsPassing P d ((start (selection_of (slice_get m n)) ∷ []) ∷ starts_from m (k + 1)) begun used) (sym e) (subst (λ ps. IsPassing P d ps begun used) (starts-next m k l) h)

-- one clause more fails, at each limit of which the search still tells
pub cut-fails-more : (P : Problem) (m : List MatrixClause) (d k i : ℕ) (known found left : Bool) → i ≡ k → left ≡ (known || found) → ((e : ℕ) → IsToldOf d known e → FailsTo P m e k) → ((e : ℕ) → IsToldOf d found e → FailsFrom P e (selection_of (slice_get m i))) → (e : ℕ) → IsToldOf d left e → FailsTo P m e (k + 1)
cut-fails-more P m d k i known found left same is h f e told =
    fails-more P m e k (h e (told-before d e known left (λ z. (both known found (sym is ∙ z)).0) told))
    (subst (λ n. FailsFrom P e (selection_of (slice_get m n))) same (f e (told-before d e found left (λ z. (both known found (sym is ∙ z)).1) told)))
  where
    both : (a b : Bool) → (a || b) ≡ false → (a ≡ false) × (b ≡ false)
    both true b z = absurd (false≢true (sym z))
    both false b z = (refl, z)

-- a clause with a literal of sign T starts nothing
pub cut-no-start : (P : Problem) (m : List MatrixClause) (d k : ℕ) (later : List (List Choice)) (begun used : ℕ) (left : Bool) → IsMatrixOf P m → k < length m → option_map (λ (x : MatrixClause). all_shown x.template) (slice_get m k) ≡ Some false → IsPassing P d ((start (selection_of (slice_get m k)) ∷ []) ∷ later) begun used → IsCutFailed P d (selection_of (slice_get m k)) later begun used left
cut-no-start P m d k later begun used left h l refused passing =
    let c = clause-at P m k h l in
    let e : Some (all_shown c.clause.template) ≡ Some false = ap (option_map (λ (x : MatrixClause). all_shown x.template)) (sym c.stands) ∙ refused in
    let f : all_shown c.clause.template ≡ false = cc e in
    (λ l told. subst (λ o. FailsFrom P l (selection_of o)) (sym c.stands) (fails-dead P l c.clause.selection (dead-start P c.clause.selection c.clause.template c.template f)), passing-next P d (start (selection_of (slice_get m k)) ∷ []) later begun used passing)

-- the tree of a start stands, and no point is there
pub cut-started : (P : Problem) (m : List MatrixClause) (base d : ℕ) (sides : List Side) (s : Store) (steps : List Step) (goals : List Goal) (first : Option ℕ) (points : List Point) (later : List (List Choice)) (begun used : ℕ) (left : Bool) → points ≡ [] → StandsFor P m base d (start sides ∷ []) s steps goals first → IsPassing P d ((start sides ∷ []) ∷ later) begun used → IsCutVisiting P m base d sides s steps goals first points later begun used left
cut-started P m base d sides s steps goals first points later begun used left e stands passing = record {
  choices = start sides ∷ [];
  stands = stands;
  not_empty = refl;
  sound = stands-start P m base d sides s steps goals first stands;
  levels = [];
  goals_left = clause_size P sides;
  solving = λ e told. levels-start P e sides;
  points = subst (λ ps. AreLevelPoints P m base d s steps goals (reverse ps) []) (sym e) tt;
  passing = passing;
}

-- ---- what is left to do falls

-- no more is left where a step is spent for one point, and others are dropped
pub cut-falls : (budget used after : ℕ) (points : List Point) (k : ℕ) (p : Point) → after ≡ used + 1 → after ≤ budget → weight p ≤ greatest_weight → work_left budget after (take k points ++ p ∷ []) ≤ work_left budget used points
cut-falls budget used after points k p e l light = by greatest_weight (budget - used) (budget - after) (sum_by weight points) (sum_by weight (take k points)) (sum_by weight (take k points ++ p ∷ [])) (weight p) (one-less budget used after e l) (sum_by-take-le weight points k) (sum_by-append weight (take k points) (p ∷ [])) light
  where
    one-less : (b u n : ℕ) → n ≡ u + 1 → n ≤ b → b - u ≡ suc (b - n)
    one-less b u n e l = omega (arith, e, l)

    by : (most a b n t j x : ℕ) → a ≡ suc b → t ≤ n → j ≡ t + (0 + x) → x ≤ most → b * (most + 1) + j ≤ a * (most + 1) + n
    by most a b n t j x ea et ej l =
        let e : suc b * (most + 1) ≡ b * (most + 1) + (most + 1) = omega arith in
        let f : a * (most + 1) ≡ b * (most + 1) + (most + 1) = ap (λ w. w * (most + 1)) ea ∙ e in
        omega (arith, f, et, ej, l)

-- nor where no point is left
pub none-falls : (budget used after : ℕ) (points before : List Point) → points ≡ [] → used ≤ after → work_left budget after points ≤ work_left budget used before
none-falls budget used after points before e l =
    subst (λ ps. work_left budget after ps ≤ work_left budget used before) (sym e)
    (by ((budget - after) * (greatest_weight + 1)) ((budget - used) * (greatest_weight + 1)) (sum_by weight before) (mul-le-mul_right (greatest_weight + 1) (less budget used after l)))
  where
    less : (b u a : ℕ) → u ≤ a → b - a ≤ b - u
    less b u a k = omega (arith, k)

    by : (x y n : ℕ) → x ≤ y → x + 0 ≤ y + n
    by x y n k = omega (arith, k)

-- a lighter point, and no more behind it
pub next-less : (budget used after : ℕ) (points before after_points : List Point) (p q : Point) → before ≡ points ++ q ∷ [] → weight q < weight p → work_left budget after after_points ≤ work_left budget used before → work_left budget after after_points < work_left budget used (points ++ p ∷ [])
next-less budget used after points before after_points p q e light l =
    let falls = next-falls budget used points p q light in
    let k = subst (λ ps. work_left budget after after_points ≤ work_left budget used ps) e l in
    by (work_left budget after after_points) (work_left budget used (points ++ q ∷ [])) (work_left budget used (points ++ p ∷ [])) k falls
  where
    by : (x y z : ℕ) → x ≤ y → y < z → x < z
    by x y z a b = omega (arith, a, b)
