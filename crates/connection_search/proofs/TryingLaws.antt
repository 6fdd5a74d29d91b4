-- The next choice of the last point: back at the point, its choice, and what comes of it.
use Rattle.std.proofs.Common.{◌≡◌, ◌⊎◌, ◌+◌, ◌-◌, ◌*◌, ◌<◌, ◌≤◌, ℕ, suc, Bool, List, [], ◌∷◌, ◌++◌, Option, None, Some, MatchOption, reverse, slice_set, sum_by, take, refl, sym, ◌∙◌, ap, subst, arith, append_assoc, inl, inr, length}
use Rattle.std.proofs.Math.Nat.{mul-le-mul_right}
use Rattle.std.specs.Bool.{⊤}
use Rattle.std.specs.List.{AllByRecursion}
use Rattle.std.proofs.Math.Seq.{take-append_seam}
use Rattle.std.proofs.lemmas.List.{length-append, reverse-append}
use Rattle.std.proofs.lemmas.List.Sums.{sum_by-append}
use Rattle.plain_laws.proofs.Places.{take-length, take-less}
use Rattle.search_theory.proofs.BeginningLaws.{not-empty-behind}
use Rattle.store_theory.specs.Bindings.{KeepsMarks}
use Rattle.calculus.specs.Choices.{Choice}
use Rattle.store_theory.specs.Stores.{IsGood, Store, TrailMark, cut_at}
use Rattle.calculus.specs.Syntax.{Problem}
use Rattle.search_theory.specs.Exploring.{behind}
use Rattle.search_theory.specs.Matrix.{MatrixClause}
use Rattle.search_theory.specs.Searching.{IsSearch}
use Rattle.search_theory.specs.States.{CellGoal}
use Rattle.search_theory.specs.DeadEnds.{IsDead}
use Rattle.search_theory.proofs.SearchSteps.{search-dead}
use Rattle.term_store.specs.Room.{KeepsRoom, TermStore}
use Rattle.term_store.specs.StoreView.{the_mark}
use Rattle.search_tree.specs.Ahead.{IsNextLeft}
use Rattle.connection_search.specs.Exploring.{AreAbove, ArePointsFrom, ArePushed, IfOn, IsBefore, IsExploring, IsSearched, IsSpentAt, IsStack, IsVisiting, choice_point, traced}
use Rattle.search_tree.specs.GivenUp.{IsGivenUp, IsRuledOut}
use Rattle.search_tree.specs.Seeing.{SeeMore, HasSeen, no_goal, seeing, seen_after}
use Rattle.search_tree.specs.declared.tree.Tree.{Tree}
use Rattle.search_theory.specs.Jumps.{AreSolvedBehind, ChoicePoint, StandsAtPoint}
use Rattle.search_theory.proofs.JumpLaws.{solved-tried}
use Rattle.connection_search.proofs.StandingLaws.{HasGoals, goals-all, last-of, points-goals, seen-made, set-last, solved-passed_over, stack-cleared, stack-fruitless, stack-kept, stack-lost, stack-refused, stack-seeing, stands-all, stands-steps, traced-back}
use Rattle.search_tree.specs.Points.{HasUntried, IsMoveAt, IsPoint, IsSamePoint, the_move}
use Rattle.search_tree.specs.Running.{IsAtGoal, IsMatrixOf, StandsFor}
use Rattle.search_tree.specs.Trees.{KeepsTree}
use Rattle.search_tree.specs.Weights.{greatest_weight, weight, weight_of_all, work_left}
use Rattle.connection_search.specs.declared.visit.Visit.{Visit}
use Rattle.connection_search.specs.declared.visit.Visit.TheVariants as visit
use Rattle.search_tree.specs.declared.point.Move.{Move}
use Rattle.search_tree.specs.declared.point.Point.{Point}
use Rattle.search_tree.specs.declared.tree.Goal.{Goal}
use Rattle.search_tree.specs.declared.tree.Step.{Step}
use Rattle.connection_search.proofs.PassingOver.{passed-over}
use Rattle.connection_search.proofs.DeadLaws.{live-not_empty, search-dead_behind}
use Rattle.search_tree.proofs.GivenUpLaws.{LooksWhereLeft, drop-known, looked-left}
use Rattle.connection_search.proofs.StackedLaws.{above-marked, before-same, mark-itself, point-back, point-next, points-back, untried-moved}
use Rattle.connection_search.proofs.SpentLaws.{stands-live}
use Rattle.connection_search.proofs.VisitLaws.{exploring-moved}

-- ---- back at the last point

-- the state is that in which the point was made; the points below it come first from the last one on
pub record IsBackAt (P : Problem) (m : List MatrixClause) (base d : ℕ) (s : Store) (steps : List Step) (goals : List Goal) (p : Point) (points : List Point) (later : List (List Choice)) (begun used : ℕ) (left : Bool) : Type 0 where
  pub choices : List Choice
  pub untried : List Choice
  pub goal : CellGoal
  pub below : List (List Choice)
  pub at : IsAtGoal P m base d choices s steps goals p.goal goal
  pub has : HasUntried m d steps goals p goal untried
  pub whole_steps : take p.steps steps ≡ steps
  pub whole_goals : take p.goals goals ≡ goals
  pub point : IsPoint P m base d s steps goals p choices untried goal
  pub before : AllByRecursion (IsBefore p) points
  pub rest : ArePointsFrom P m base d s steps goals points below
  pub solved : AreSolvedBehind P d no_goal [] (choice_point p choices untried ∷ traced P m base d s steps goals points below rest)
  pub searched : IsSearched P d (behind choices untried ++ (below ++ later)) begun used left

back-moved : (P : Problem) (m : List MatrixClause) (base d : ℕ) (s t : Store) (steps after : List Step) (goals all : List Goal) (p : Point) (points : List Point) (later : List (List Choice)) (begun used : ℕ) (left : Bool) → t ≡ s → after ≡ steps → all ≡ goals → IsBackAt P m base d s steps goals p points later begun used left → IsBackAt P m base d t after all p points later begun used left
back-moved P m base d s t steps after goals all p points later begun used left es ea eb h = rw (es, ea, eb) h

-- of the points, the last one first
last-first : (P : Problem) (m : List MatrixClause) (base d : ℕ) (s : Store) (steps : List Step) (goals : List Goal) (p : Point) (points : List Point) (pending later : List (List Choice)) (begun used : ℕ) (left : Bool) → (h : ArePointsFrom P m base d s steps goals (p ∷ points) pending) → AreSolvedBehind P d no_goal [] (traced P m base d s steps goals (p ∷ points) pending h) → IsSearched P d (pending ++ later) begun used left → IsBackAt P m base d (cut_at (the_mark p.mark) s) (take p.steps steps) (take p.goals goals) p points later begun used left
last-first P m base d s steps goals p points pending later begun used left (c, untried, g, below, e, h, before, rest) solved searched =
    let itself : IsBefore p p = record { marks = mark-itself (the_mark p.mark); steps = omega arith; goals = omega arith } in
    record {
      choices = c;
      untried = untried;
      goal = g;
      below = below;
      at = h.at;
      has = h.choices;
      whole_steps = take-less p.steps p.steps steps (omega arith);
      whole_goals = take-less p.goals p.goals goals (omega arith);
      point = point-back P m base d s steps goals p p c untried g itself h;
      before = before;
      rest = points-back P m base d s steps goals p points below before rest;
      solved = subst (λ qs. AreSolvedBehind P d no_goal [] (choice_point p c untried ∷ qs)) (sym (traced-back P m base d s steps goals p points below before rest)) solved;
      searched = subst (λ xs. IsSearched P d xs begun used left) (ap (λ xs. xs ++ later) e ∙ append_assoc (behind c untried) below later) searched;
    }

pub back-at : (P : Problem) (m : List MatrixClause) (base d : ℕ) (s t : Store) (steps after : List Step) (goals all : List Goal) (points : List Point) (p : Point) (later : List (List Choice)) (begun used : ℕ) (left : Bool) → IsExploring P m base d s steps goals (points ++ p ∷ []) later begun used left → t ≡ cut_at (the_mark p.mark) s → after ≡ take p.steps steps → all ≡ take p.goals goals → IsBackAt P m base d t after all p (reverse points) later begun used left
back-at P m base d s t steps after goals all points p later begun used left h es ea eb =
    back-moved P m base d (cut_at (the_mark p.mark) s) t (take p.steps steps) after (take p.goals goals) all p (reverse points) later begun used left es ea eb
    (let k = subst (λ ps. IsStack P m base d s steps goals [] ps h.pending) (reverse-append points (p ∷ [])) h.points in
    last-first P m base d s steps goals p (reverse points) h.pending later begun used left k.are k.solved h.searched)

-- the last point's mark is good
pub last-good : (P : Problem) (m : List MatrixClause) (base d : ℕ) (s : Store) (steps : List Step) (goals : List Goal) (points : List Point) (p : Point) (later : List (List Choice)) (begun used : ℕ) (left : Bool) → IsExploring P m base d s steps goals (points ++ p ∷ []) later begun used left → IsGood (the_mark p.mark) s
last-good P m base d s steps goals points p later begun used left h = by (subst (λ ps. IsStack P m base d s steps goals [] ps h.pending) (reverse-append points (p ∷ [])) h.points).are
  where
    by : ArePointsFrom P m base d s steps goals (p ∷ reverse points) h.pending → IsGood (the_mark p.mark) s
    by (c, untried, g, below, e, k, before, rest) = k.good

-- the point with the others, whatever it has left to try
points-all : (P : Problem) (m : List MatrixClause) (base d : ℕ) (s : Store) (steps : List Step) (goals : List Goal) (p : Point) (points : List Point) (later : List (List Choice)) (begun used : ℕ) (left : Bool) → (h : IsBackAt P m base d s steps goals p points later begun used left) → (xs : List Choice) → AllByRecursion (StandsAtPoint P d) (choice_point p h.choices xs ∷ traced P m base d s steps goals points h.below h.rest) × AllByRecursion (HasGoals (length goals)) (choice_point p h.choices xs ∷ traced P m base d s steps goals points h.below h.rest)
points-all P m base d s steps goals p points later begun used left h xs =
    let are : ArePointsFrom P m base d s steps goals (p ∷ points) (behind h.choices h.untried ++ h.below) = (h.choices, h.untried, h.goal, h.below, refl, h.point, h.before, h.rest) in
    let stand = stands-all P m base d s steps goals (p ∷ points) (behind h.choices h.untried ++ h.below) are in
    let many = goals-all P m base d s steps goals (p ∷ points) (behind h.choices h.untried ++ h.below) are in
    ((record { state = stand.0.state; is_state = stand.0.is_state; goals = stand.0.goals }, stand.1), ((many.0.0, many.0.1), many.1))

-- no choice is left, but for those that were passed over
pub none-left : (P : Problem) (m : List MatrixClause) (base d : ℕ) (s : Store) (steps : List Step) (goals : List Goal) (points : List Point) (p : Point) (later : List (List Choice)) (begun used : ℕ) (left : Bool) → IsMatrixOf P m → (h : IsBackAt P m base d s steps goals p points later begun used left) → (after : Point) → IsNextLeft P m d h.choices steps goals after h.goal h.untried left None → IsSpentAt P m base d s steps goals p points later begun used left
none-left P m base d s steps goals points p later begun used left tm h after n = record {
  choices = h.choices;
  goal = h.goal;
  below = h.below;
  at = h.at;
  before = h.before;
  rest = h.rest;
  solved = solved-passed_over P m base d h.choices s steps goals p.goal h.goal left p n.passed [] (traced P m base d s steps goals points h.below h.rest) tm h.at n.each (points-all P m base d s steps goals p points later begun used left h) (subst (λ xs. AreSolvedBehind P d no_goal [] (choice_point p h.choices xs ∷ traced P m base d s steps goals points h.below h.rest)) n.next h.solved);
  searched = passed-over P m base d h.choices s steps goals p.goal h.goal left n.passed [] h.untried (h.below ++ later) begun used tm h.at n.each n.next h.searched;
}

-- the tree is that of a state whose leftmost open goal is the point's
pub stands-back : (P : Problem) (m : List MatrixClause) (base d : ℕ) (s : Store) (steps : List Step) (goals : List Goal) (first : Option ℕ) (p : Point) (points : List Point) (later : List (List Choice)) (begun used : ℕ) (left : Bool) → first ≡ Some p.goal → (h : IsBackAt P m base d s steps goals p points later begun used left) → StandsFor P m base d h.choices s steps goals first
stands-back P m base d s steps goals first p points later begun used left e h = subst (StandsFor P m base d h.choices s steps goals) (sym e) (h.at.made, record { open_goals = h.goal ∷ h.at.behind; all_goals = h.at.every; depths = h.at.depths }, h.at.at)

-- the tree is irregular
pub dead-left : (P : Problem) (m : List MatrixClause) (base d : ℕ) (s : Store) (steps : List Step) (goals : List Goal) (first : Option ℕ) (points others : List Point) (p : Point) (later : List (List Choice)) (begun used : ℕ) (left : Bool) → first ≡ Some p.goal → (h : IsBackAt P m base d s steps goals p (reverse points) later begun used left) → SeeMore 0 points others → IsDead P h.choices → IsExploring P m base d s steps goals others later begun used left
dead-left P m base d s steps goals first points others p later begun used left e h more dead =
    let live = stands-live P m base d h.choices s steps goals first (stands-back P m base d s steps goals first p (reverse points) later begun used left e h) in
    record {
      pending = h.below;
      points = stack-cleared P m base d s steps goals points others h.below more h.rest;
      searched = record {
        spent = h.searched.spent;
        search = search-dead_behind P d h.searched.spent h.choices h.untried (h.below ++ later) left (live-not_empty P d h.choices live) dead h.searched.search;
        from = h.searched.from;
        count = h.searched.count;
      };
    }

-- ---- the next choice

-- this choice comes next, at a goal that stands there; the points on the stack are the last one first
pub record IsTrying (P : Problem) (m : List MatrixClause) (base d : ℕ) (s : Store) (steps : List Step) (goals : List Goal) (stack : List Point) (later : List (List Choice)) (begun used : ℕ) (left : Bool) (goal : ℕ) (choice : Move) : Type 0 where
  pub choices : List Choice
  pub at_goal : CellGoal
  pub at : IsAtGoal P m base d choices s steps goals goal at_goal
  pub move : IsMoveAt m d steps goals at_goal choice
  pub pending : List (List Choice)
  pub points : IsStack P m base d s steps goals ((choices ++ the_move m choice ∷ []) ∷ []) stack pending
  pub searched : IsSearched P d ((choices ++ the_move m choice ∷ []) ∷ pending ++ later) begun used left

-- what the next choice says
pub next-none : (m : List MatrixClause) (d : ℕ) (steps : List Step) (goals : List Goal) (after : Point) (g : CellGoal) (untried : List Choice) (o : Option Move) → MatchOption o (untried ≡ []) (λ x. IsMoveAt m d steps goals g x × ((rest : List Choice) × (untried ≡ the_move m x ∷ rest) × HasUntried m d steps goals after g rest)) → o ≡ None → untried ≡ []
next-none m d steps goals after g untried None h e = h
next-none m d steps goals after g untried (Some x) h e = let z : Some x ≡ None = e in absurd (cc z)

pub next-some : (m : List MatrixClause) (d : ℕ) (steps : List Step) (goals : List Goal) (after : Point) (g : CellGoal) (untried : List Choice) (o : Option Move) (choice : Move) → MatchOption o (untried ≡ []) (λ x. IsMoveAt m d steps goals g x × ((rest : List Choice) × (untried ≡ the_move m x ∷ rest) × HasUntried m d steps goals after g rest)) → o ≡ Some choice → IsMoveAt m d steps goals g choice × ((rest : List Choice) × (untried ≡ the_move m choice ∷ rest) × HasUntried m d steps goals after g rest)
next-some m d steps goals after g untried None choice h e = let z : None ≡ Some choice = e in absurd (cc z)
next-some m d steps goals after g untried (Some x) choice h e = subst (λ z. IsMoveAt m d steps goals g z × ((rest : List Choice) × (untried ≡ the_move m z ∷ rest) × HasUntried m d steps goals after g rest)) (let z : x ≡ choice = cc e in z) h

pub lighter-some : (before after : Point) (o : Option Move) (choice : Move) → MatchOption o ⊤ (λ x. weight after < weight before) → o ≡ Some choice → weight after < weight before
lighter-some before after None choice h e = let z : None ≡ Some choice = e in absurd (cc z)
lighter-some before after (Some x) choice h e = h

same-choice_point : (p q : Point) (c xs : List Choice) → IsSamePoint p q → choice_point p c xs ≡ choice_point q c xs
same-choice_point p q c xs same = λ i. record { list = c; goals = sym same.goals i; lowest = sym same.lowest i; pending = behind c xs }

-- the point q has some choices fewer to try than p, and takes its place
pub next-tried : (P : Problem) (m : List MatrixClause) (base d : ℕ) (s : Store) (steps : List Step) (goals : List Goal) (points : List Point) (p q : Point) (later : List (List Choice)) (begun used : ℕ) (left : Bool) (choice : Move) → IsMatrixOf P m → IsSamePoint p q → (h : IsBackAt P m base d s steps goals p points later begun used left) → IsNextLeft P m d h.choices steps goals q h.goal h.untried left (Some choice) → IsTrying P m base d s steps goals (q ∷ points) later begun used left q.goal choice
next-tried P m base d s steps goals points p q later begun used left choice tm same h n =
    let (move, (rest, e, has)) = n.next in
    let left_over : HasUntried m d (take p.steps steps) (take p.goals goals) q h.goal rest = untried-moved m d steps (take p.steps steps) goals (take p.goals goals) q h.goal rest h.whole_steps h.whole_goals has in
    let qs = traced P m base d s steps goals points h.below h.rest in
    let solved = solved-passed_over P m base d h.choices s steps goals p.goal h.goal left p n.passed (the_move m choice ∷ rest) qs tm h.at n.each (points-all P m base d s steps goals p points later begun used left h) (subst (λ xs. AreSolvedBehind P d no_goal [] (choice_point p h.choices xs ∷ qs)) e h.solved) in
    record {
      choices = h.choices;
      at_goal = h.goal;
      at = subst (λ n. IsAtGoal P m base d h.choices s steps goals n h.goal) (sym same.goal) h.at;
      move = move;
      pending = behind h.choices rest ++ h.below;
      points = record {
        are = (h.choices, rest, h.goal, h.below, refl, point-next P m base d s steps goals p q h.choices h.untried rest h.goal h.point same left_over, before-same p q points same h.before, h.rest);
        solved = subst (λ (x : ChoicePoint). AreSolvedBehind P d no_goal ((h.choices ++ the_move m choice ∷ []) ∷ []) (x ∷ qs)) (same-choice_point p q h.choices rest same) (solved-tried P d no_goal (choice_point p h.choices (the_move m choice ∷ rest)) (h.choices ++ the_move m choice ∷ []) (behind h.choices rest) qs refl solved);
      };
      searched = subst (λ xs. IsSearched P d xs begun used left) (ap (λ xs. (h.choices ++ the_move m choice ∷ []) ∷ xs) (sym (append_assoc (behind h.choices rest) h.below later))) (passed-over P m base d h.choices s steps goals p.goal h.goal left n.passed (the_move m choice ∷ rest) h.untried (h.below ++ later) begun used tm h.at n.each e h.searched);
    }

-- what comes next at the point
abbrev pub NextAt : List MatrixClause → ℕ → Problem → Store → List Step → List Goal → Point → Point → Bool → Option Move → Type 0
NextAt m d P s steps goals p q left o = (base : ℕ) (c : List Choice) (g : CellGoal) (untried : List Choice) → IsMatrixOf P m → IsAtGoal P m base d c s steps goals p.goal g → HasUntried m d steps goals p g untried → IsNextLeft P m d c steps goals q g untried left o

-- the same from the points before
pub tried-at : (P : Problem) (m : List MatrixClause) (base d : ℕ) (s t : Store) (steps after : List Step) (goals all : List Goal) (points : List Point) (p q : Point) (later : List (List Choice)) (begun used : ℕ) (left : Bool) (o : Option Move) (choice : Move) → t ≡ cut_at (the_mark p.mark) s → after ≡ take p.steps steps → all ≡ take p.goals goals → IsSamePoint p q → IsMatrixOf P m → NextAt m d P t after all p q left o → o ≡ Some choice → IsExploring P m base d s steps goals (points ++ p ∷ []) later begun used left → IsTrying P m base d t after all (q ∷ reverse points) later begun used left q.goal choice
tried-at P m base d s t steps after goals all points p q later begun used left o choice es ea eb same tm next some h =
    let b = back-at P m base d s t steps after goals all points p later begun used left h es ea eb in
    next-tried P m base d t after all (reverse points) p q later begun used left choice tm same b
    (subst (IsNextLeft P m d b.choices after all q b.goal b.untried left) some (next base b.choices b.goal b.untried tm b.at b.has))

-- no choice is left at the point, as it is now
pub spent-same : (P : Problem) (m : List MatrixClause) (base d : ℕ) (s : Store) (steps : List Step) (goals : List Goal) (p q : Point) (points : List Point) (later : List (List Choice)) (begun used : ℕ) (left : Bool) → IsSamePoint p q → IsSpentAt P m base d s steps goals p points later begun used left → IsSpentAt P m base d s steps goals q points later begun used left
spent-same P m base d s steps goals p q points later begun used left same h = record {
  choices = h.choices;
  goal = h.goal;
  below = h.below;
  at = subst (λ n. IsAtGoal P m base d h.choices s steps goals n h.goal) (sym same.goal) h.at;
  before = before-same p q points same h.before;
  rest = h.rest;
  solved = subst (λ (x : ChoicePoint). AreSolvedBehind P d no_goal [] (x ∷ traced P m base d s steps goals points h.below h.rest)) (same-choice_point p q h.choices [] same) h.solved;
  searched = h.searched;
}

pub none-at : (P : Problem) (m : List MatrixClause) (base d : ℕ) (s t : Store) (steps after : List Step) (goals all : List Goal) (points : List Point) (p q : Point) (later : List (List Choice)) (begun used : ℕ) (left : Bool) (o : Option Move) → t ≡ cut_at (the_mark p.mark) s → after ≡ take p.steps steps → all ≡ take p.goals goals → IsSamePoint p q → IsMatrixOf P m → NextAt m d P t after all p q left o → o ≡ None → IsExploring P m base d s steps goals (points ++ p ∷ []) later begun used left → IsSpentAt P m base d t after all q (reverse points) later begun used left
none-at P m base d s t steps after goals all points p q later begun used left o es ea eb same tm next none h =
    let b = back-at P m base d s t steps after goals all points p later begun used left h es ea eb in
    spent-same P m base d t after all p q (reverse points) later begun used left same
    (none-left P m base d t after all (reverse points) p later begun used left tm b q (subst (IsNextLeft P m d b.choices after all q b.goal b.untried left) none (next base b.choices b.goal b.untried tm b.at b.has)))

-- the tree is irregular
pub dead-at : (P : Problem) (m : List MatrixClause) (base d : ℕ) (s t : Store) (steps after now : List Step) (goals all these : List Goal) (first : Option ℕ) (points others : List Point) (p : Point) (later : List (List Choice)) (begun used : ℕ) (left : Bool) → t ≡ cut_at (the_mark p.mark) s → after ≡ take p.steps steps → all ≡ take p.goals goals → first ≡ Some p.goal → now ≡ after → these ≡ all → SeeMore 0 points others → ((P : Problem) (m : List MatrixClause) (base d : ℕ) (c : List Choice) → StandsFor P m base d c t after all first → IsDead P c) → IsExploring P m base d s steps goals (points ++ p ∷ []) later begun used left → IsExploring P m base d t now these others later begun used left
dead-at P m base d s t steps after now goals all these first points others p later begun used left es ea eb ef en et more dead h =
    let b = back-at P m base d s t steps after goals all points p later begun used left h es ea eb in
    exploring-moved P m base d t t after now all these others later begun used left refl en et
    (dead-left P m base d t after all first points others p later begun used left ef b more (dead P m base d b.choices (stands-back P m base d t after all first p (reverse points) later begun used left ef b)))

-- the last point first, with what it has seen
abbrev pub IsPushed : ℕ → Point → List Point → List Point → Type 0
IsPushed n q points after = after ≡ points ++ seeing n q ∷ []

pub is-pushed : (n k : ℕ) (q r : Point) (points after : List Point) → after ≡ points ++ r ∷ [] → r ≡ seeing k q → k ≡ n → IsPushed n q points after
is-pushed n k q r points after e same number = e ∙ ap (λ x. points ++ x ∷ []) (same ∙ ap (λ i. seeing i q) number)

pub lighter-seen : (p q r : Point) (n : ℕ) → r ≡ seeing n q → weight q < weight p → weight r < weight p
lighter-seen p q r n e l = subst (λ x. weight x < weight p) (sym e) l

-- the point has the number of the choices that were made
pub steps-here : (P : Problem) (m : List MatrixClause) (base d : ℕ) (s t : Store) (steps after : List Step) (goals all : List Goal) (points : List Point) (p q : Point) (later : List (List Choice)) (begun used : ℕ) (left : Bool) → t ≡ cut_at (the_mark p.mark) s → after ≡ take p.steps steps → all ≡ take p.goals goals → IsSamePoint p q → IsExploring P m base d s steps goals (points ++ p ∷ []) later begun used left → q.steps ≡ length after
steps-here P m base d s t steps after goals all points p q later begun used left es ea eb same h =
    let b = back-at P m base d s t steps after goals all points p later begun used left h es ea eb in
    same.steps ∙ sym (take-length p.steps after b.point.steps_within) ∙ ap length b.whole_steps

reverse-pushed : (n : ℕ) (q : Point) (points after : List Point) → IsPushed n q points after → reverse after ≡ seeing n q ∷ reverse points
reverse-pushed n q points after e = ap reverse e ∙ reverse-append points (seeing n q ∷ [])

-- how many choices were made at the point
steps-at : (P : Problem) (m : List MatrixClause) (base d : ℕ) (s t : Store) (steps after : List Step) (goals all : List Goal) (first : Option ℕ) (goal before : ℕ) (g : CellGoal) (c : List Choice) (x : Choice) → IsAtGoal P m base d c s steps goals goal g → before ≡ length steps → StandsFor P m base d (c ++ x ∷ []) t after all first → before < length after
steps-at P m base d s t steps after goals all first goal before g c x at e stands =
    let old = stands-steps P m base d c s steps goals (Some goal) (at.made, record { open_goals = g ∷ at.behind; all_goals = at.every; depths = at.depths }, at.at) in
    let new = stands-steps P m base d (c ++ x ∷ []) t after all first stands in
    let long = length-append c (x ∷ []) in
    omega (arith, old, new, long, e)

-- the choice is not made
pub trying-refused : (P : Problem) (m : List MatrixClause) (base d : ℕ) (s : Store) (t : TermStore) (steps : List Step) (goals : List Goal) (tree : Tree) (points after : List Point) (q : Point) (later : List (List Choice)) (begun used : ℕ) (left : Bool) (choice : Move) (ahead : Option ℕ) → (h : IsTrying P m base d s steps goals (q ∷ reverse points) later begun used left q.goal choice) → KeepsMarks s t.store → KeepsTree steps goals tree.steps.items tree.goals.items → LooksWhereLeft ahead d left → IsRuledOut P d (h.choices ++ the_move m choice ∷ []) ahead → IsGivenUp P m base d (h.choices ++ the_move m choice ∷ []) (length goals) t tree → q.steps ≡ length steps → IsPushed (seen_after q.steps (length tree.steps.items) tree.open) q points after → IsExploring P m base d t.store tree.steps.items tree.goals.items after later begun used left
trying-refused P m base d s t steps goals tree points after q later begun used left choice ahead h marks kept looks out given count pushed = record {
  pending = h.pending;
  points = subst (λ ps. IsStack P m base d t.store tree.steps.items tree.goals.items [] ps h.pending) (sym (reverse-pushed (seen_after q.steps (length tree.steps.items) tree.open) q points after pushed)) (by given);
  searched = record {
    spent = h.searched.spent;
    search = dropped out;
    from = h.searched.from;
    count = h.searched.count;
  };
}
  where
    c : List Choice
    c = h.choices ++ the_move m choice ∷ []

    dropped : IsRuledOut P d c ahead → IsSearch P d h.searched.spent (h.pending ++ later) left
    dropped (inl dead) = search-dead P d h.searched.spent c (h.pending ++ later) left h.searched.search (not-empty-behind h.choices (the_move m choice)) dead
    dropped (inr (looked, pruned)) = drop-known P d h.searched.spent c (h.pending ++ later) left (looked-left ahead d left looks looked) pruned h.searched.search

    n : ℕ
    n = seen_after q.steps (length tree.steps.items) tree.open

    seen : IsStack P m base d t.store tree.steps.items tree.goals.items (c ∷ []) (seeing n q ∷ reverse points) h.pending
    seen = stack-seeing P m base d t.store tree.steps.items tree.goals.items (c ∷ []) n q (reverse points) h.pending (stack-kept P m base d s t.store steps tree.steps.items goals tree.goals.items (c ∷ []) (q ∷ reverse points) h.pending marks kept h.points)

    by : IsGivenUp P m base d c (length goals) t tree → IsStack P m base d t.store tree.steps.items tree.goals.items [] (seeing n q ∷ reverse points) h.pending
    by (inl none) = stack-refused P m base d t.store tree.steps.items tree.goals.items c (seeing n q ∷ reverse points) h.pending (not-empty-behind h.choices (the_move m choice)) none seen
    by (inr (inr none)) = stack-fruitless P m base d t.store tree.steps.items tree.goals.items c (length goals) (seeing n q ∷ reverse points) h.pending none (points-goals P m base d s steps goals (q ∷ reverse points) h.pending h.points.are) seen
    by (inr (inl (stands, lost))) =
        let made = steps-at P m base d s t.store steps tree.steps.items goals tree.goals.items tree.open q.goal q.steps h.at_goal h.choices (the_move m choice) h.at count stands in
        stack-lost P m base d t.store tree.steps.items tree.goals.items c (length goals) tree.open (seeing n q ∷ reverse points) h.pending (not-empty-behind h.choices (the_move m choice)) lost (points-goals P m base d s steps goals (q ∷ reverse points) h.pending h.points.are) (seen-made q.steps (length tree.steps.items) tree.open q (reverse points) made) seen

-- it was made
pub trying-made : (P : Problem) (m : List MatrixClause) (base d : ℕ) (s t : Store) (steps after : List Step) (goals all : List Goal) (first : Option ℕ) (points pushed : List Point) (q : Point) (later : List (List Choice)) (begun used : ℕ) (left : Bool) (choice : Move) → (h : IsTrying P m base d s steps goals (q ∷ reverse points) later begun used left q.goal choice) → KeepsMarks s t → KeepsTree steps goals after all → StandsFor P m base d (h.choices ++ the_move m choice ∷ []) t after all first → q.steps ≡ length steps → IsPushed (seen_after q.steps (length after) first) q points pushed → IsVisiting P m base d t after all first pushed later begun used left
trying-made P m base d s t steps after goals all first points pushed q later begun used left choice h marks kept stands count is = record {
  choices = h.choices ++ the_move m choice ∷ [];
  stands = stands;
  not_empty = not-empty-behind h.choices (the_move m choice);
  pending = h.pending;
  points = subst (λ ps. IsStack P m base d t after all ((h.choices ++ the_move m choice ∷ []) ∷ []) ps h.pending) (sym number)
      (stack-seeing P m base d t after all ((h.choices ++ the_move m choice ∷ []) ∷ []) (seen_after q.steps (length after) first) q (reverse points) h.pending (stack-kept P m base d s t steps after goals all ((h.choices ++ the_move m choice ∷ []) ∷ []) (q ∷ reverse points) h.pending marks kept h.points));
  seen = subst (HasSeen first) (sym number) (seen-made q.steps (length after) first q (reverse points) (steps-at P m base d s t steps after goals all first q.goal q.steps h.at_goal h.choices (the_move m choice) h.at count stands));
  searched = h.searched;
}
  where
    number : reverse pushed ≡ seeing (seen_after q.steps (length after) first) q ∷ reverse points
    number = reverse-pushed (seen_after q.steps (length after) first) q points pushed is

-- ---- the last point is changed in its place

-- the points below it stay
pub set-end : (xs : List Point) (k : ℕ) (p q : Point) → xs ≡ take k xs ++ p ∷ [] → suc k ≡ length xs → slice_set xs k q ≡ take k xs ++ q ∷ []
set-end xs k p q are e =
    let l = ap length are in
    let m = length-append (take k xs) (p ∷ []) in
    ap (λ zs. slice_set zs k q) are ∙ set-last (take k xs) p q k (omega (arith, e, l, m))

-- and are left where it goes
pub cut-end : (xs : List Point) (k : ℕ) (p q : Point) → xs ≡ take k xs ++ p ∷ [] → suc k ≡ length xs → take k (slice_set xs k q) ≡ take k xs
cut-end xs k p q are e =
    let l = ap length are in
    let m = length-append (take k xs) (p ∷ []) in
    let number : k ≡ length (take k xs) = omega (arith, e, l, m) in
    ap (take k) (set-end xs k p q are e) ∙ ap (λ n. take n (take k xs ++ q ∷ [])) number ∙ take-append_seam (take k xs) (q ∷ [])

pub exploring-at : (P : Problem) (m : List MatrixClause) (base d : ℕ) (s : Store) (steps : List Step) (goals : List Goal) (xs ys : List Point) (later : List (List Choice)) (begun used : ℕ) (left : Bool) → xs ≡ ys → IsExploring P m base d s steps goals xs later begun used left → IsExploring P m base d s steps goals ys later begun used left
exploring-at P m base d s steps goals xs ys later begun used left e h = subst (λ ps. IsExploring P m base d s steps goals ps later begun used left) e h

-- ---- nothing is left on the stack

pub explored-all : (P : Problem) (m : List MatrixClause) (base d : ℕ) (s : Store) (steps : List Step) (goals : List Goal) (points : List Point) (later : List (List Choice)) (begun used : ℕ) (left : Bool) → IsExploring P m base d s steps goals points later begun used left → points ≡ [] → IsSearched P d later begun used left
explored-all P m base d s steps goals points later begun used left h e =
    let none : h.pending ≡ [] = (subst (λ ps. IsStack P m base d s steps goals [] (reverse ps) h.pending) e h.points).are in
    subst (λ xs. IsSearched P d (xs ++ later) begun used left) none h.searched

-- ---- what is left to do falls

weights-end : (points : List Point) (p : Point) → sum_by weight (points ++ p ∷ []) ≡ sum_by weight points + weight p
weights-end points p = sum_by-append weight points (p ∷ []) ∙ ap (λ n. sum_by weight points + n) (none-plus (weight p))
  where
    none-plus : (n : ℕ) → 0 + n ≡ n
    none-plus n = omega arith

-- the last point is dropped
pub dropped-falls : (budget used : ℕ) (points : List Point) (p : Point) → work_left budget used points < work_left budget used (points ++ p ∷ [])
dropped-falls budget used points p = by ((budget - used) * (greatest_weight + 1)) (sum_by weight points) (sum_by weight (points ++ p ∷ [])) (p.depth - p.up) (p.end - p.next) (weights-end points p)
  where
    by : (a n k x y : ℕ) → k ≡ n + (x + y + 1) → a + n < a + k
    by a n k x y e = omega (arith, e)

-- its next choice comes
pub next-falls : (budget used : ℕ) (points : List Point) (p q : Point) → weight q < weight p → work_left budget used (points ++ q ∷ []) < work_left budget used (points ++ p ∷ [])
next-falls budget used points p q l = by ((budget - used) * (greatest_weight + 1)) (sum_by weight points) (sum_by weight (points ++ q ∷ [])) (sum_by weight (points ++ p ∷ [])) (weight q) (weight p) (weights-end points q) (weights-end points p) l
  where
    by : (a n k j x y : ℕ) → k ≡ n + x → j ≡ n + y → x < y → a + k < a + j
    by a n k j x y e f l = omega (arith, e, f, l)

-- and a step is spent for a new point
pub pushed-falls : (budget used : ℕ) (points : List Point) (p q new : Point) → used + 1 ≤ budget → weight q < weight p → weight new ≤ greatest_weight → work_left budget (used + 1) ((points ++ q ∷ []) ++ new ∷ []) < work_left budget used (points ++ p ∷ [])
pushed-falls budget used points p q new l less light = by greatest_weight (budget - used) (budget - (used + 1)) (sum_by weight points) (sum_by weight (points ++ q ∷ [])) (sum_by weight (points ++ p ∷ [])) (sum_by weight ((points ++ q ∷ []) ++ new ∷ [])) (weight q) (weight p) (weight new) (one-less budget used l) (weights-end points q) (weights-end points p) (weights-end (points ++ q ∷ []) new) less light
  where
    one-less : (b u : ℕ) → u + 1 ≤ b → b - u ≡ suc (b - (u + 1))
    one-less b u l = omega (arith, l)

    by : (most a b n k j i x y z : ℕ) → a ≡ suc b → k ≡ n + x → j ≡ n + y → i ≡ k + z → x < y → z ≤ most → b * (most + 1) + i < a * (most + 1) + j
    by most a b n k j i x y z ea ek ej ei l r =
        let e : suc b * (most + 1) ≡ b * (most + 1) + (most + 1) = omega arith in
        let f : a * (most + 1) ≡ b * (most + 1) + (most + 1) = ap (λ w. w * (most + 1)) ea ∙ e in
        omega (arith, f, ek, ej, ei, l, r)

-- more steps used leave no more
used-falls : (budget used after : ℕ) (xs ys : List Point) → used ≤ after → work_left budget used xs < work_left budget used ys → work_left budget after xs < work_left budget used ys
used-falls budget used after xs ys l falls = by ((budget - after) * (greatest_weight + 1)) ((budget - used) * (greatest_weight + 1)) (sum_by weight xs) (work_left budget used ys) (mul-le-mul_right (greatest_weight + 1) (less budget used after l)) falls
  where
    less : (b u a : ℕ) → u ≤ a → b - a ≤ b - u
    less b u a l = omega (arith, l)

    by : (x y w n : ℕ) → x ≤ y → y + w < n → x + w < n
    by x y w n l f = omega (arith, l, f)

-- the last point is dropped, and no more is left to try at the others
pub fewer-falls : (budget used : ℕ) (points after : List Point) (p : Point) → weight_of_all after ≤ weight_of_all points → work_left budget used after < work_left budget used (points ++ p ∷ [])
fewer-falls budget used points after p l = by ((budget - used) * (greatest_weight + 1)) (sum_by weight after) (sum_by weight points) (work_left budget used (points ++ p ∷ [])) l (dropped-falls budget used points p)
  where
    by : (a n k m : ℕ) → n ≤ k → a + k < m → a + n < m
    by a n k m l f = omega (arith, l, f)

pub visit-falls : (budget used after_used : ℕ) (points before after : List Point) (p q : Point) → ArePushed before after used after_used → before ≡ points ++ q ∷ [] → after_used ≤ budget → weight q < weight p → work_left budget after_used after < work_left budget used (points ++ p ∷ [])
visit-falls budget used after_used points before after p q h e l less = elim h [
  | inl (light, more) ↦ used-falls budget used after_used after (points ++ p ∷ []) more (by ((budget - used) * (greatest_weight + 1)) (sum_by weight after) (sum_by weight before) (sum_by weight (points ++ q ∷ [])) (work_left budget used (points ++ p ∷ [])) light (ap weight_of_all e) (next-falls budget used points p q less))
  | inr (new, pushed, one, light) ↦ subst (λ u. work_left budget u after < work_left budget used (points ++ p ∷ [])) (sym one) (subst (λ ps. work_left budget (used + 1) ps < work_left budget used (points ++ p ∷ [])) (sym (pushed ∙ ap (λ ps. ps ++ new ∷ []) e)) (pushed-falls budget used points p q new (omega (arith, l, one)) less light))
]
  where
    by : (a n k j m : ℕ) → n ≤ k → k ≡ j → a + j < m → a + n < m
    by a n k j m l e f = omega (arith, l, e, f)

-- what the last point has seen changes neither what is left to try nor the moments of the points
pub seen-weight : (n : ℕ) (before after : List Point) → SeeMore n before after → weight_of_all after ≤ weight_of_all before
seen-weight n before after more = let e = by (last-of before) in omega (arith, e)
  where
    by : (before ≡ []) ⊎ ((ys : List Point) × (y : Point) × (before ≡ ys ++ y ∷ [])) → weight_of_all after ≡ weight_of_all before
    by (inl e) = ap weight_of_all (more.none e ∙ sym e)
    by (inr (ys, y, e)) = ap weight_of_all (more.last ys y e) ∙ weights-end ys (seeing n y) ∙ sym (ap weight_of_all e ∙ weights-end ys y)

pub above-seen : (k : TrailMark) (n : ℕ) (before after : List Point) → SeeMore n before after → AreAbove k before → AreAbove k after
above-seen k n before after more h = by (last-of before)
  where
    by : (before ≡ []) ⊎ ((ys : List Point) × (y : Point) × (before ≡ ys ++ y ∷ [])) → AreAbove k after
    by (inl e) = subst (AreAbove k) (sym (more.none e)) tt
    by (inr (ys, y, e)) = subst (AreAbove k) (sym (more.last ys y e)) (above-marked k ys y (seeing n y) refl (subst (AreAbove k) e h))

-- ---- what a visit comes to

pub if_on : (v : Visit) (Q R : Type 0) → IfOn v Q → (Q → R) → IfOn v R
if_on visit.On Q R h f = f h
if_on (visit.Closed t) Q R h f = tt
if_on visit.Steps Q R h f = tt

pub on-there : (v : Visit) (Q : Type 0) → v ≡ visit.On → IfOn v Q → Q
on-there v Q e h = subst (λ z. IfOn z Q) e h

pub room-both : (a b c : TermStore) → KeepsRoom a b → KeepsRoom b c → KeepsRoom a c
room-both a b c h k =
    let (hx, hy) = h in
    let (kx, ky) = k in
    (omega (arith, hx, kx), omega (arith, hy, ky))
