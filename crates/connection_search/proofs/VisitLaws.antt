-- What a visit of the next pending list comes to.
use Rattle.std.proofs.Common.{◌≡◌, ◌⊎◌, ◌↔◌, if◌then◌else◌, ◌+◌, ◌<◌, ◌≤◌, ℕ, zero, suc, List, [], ◌∷◌, ◌++◌, length, reverse, take, Bool, true, false, IsTrue, refl, sym, ◌∙◌, ap, subst, Option, Some, arith, append_assoc, inl, inr, None}
use Rattle.std.specs.List.{AllByRecursion}
use Rattle.std.proofs.lemmas.Bool.{false≢true}
use Rattle.std.proofs.lemmas.List.{length-append, reverse-append}
use Rattle.store_theory.specs.Bindings.{IsEarlier}
use Rattle.calculus.specs.Choices.{Choice, IsLeft}
use Rattle.calculus.specs.Space.{with_choices}
use Rattle.store_theory.specs.Stores.{IsGood, Store, TrailMark, cells_bound_by, cut_at}
use Rattle.calculus.specs.Syntax.{Problem}
use Rattle.store_theory.proofs.StoreLaws.{length-bound}
use Rattle.search_theory.specs.Exploring.{behind}
use Rattle.search_theory.specs.Matrix.{MatrixClause}
use Rattle.search_theory.specs.Searching.{IsSearch}
use Rattle.search_theory.specs.OrderedChoices.{choices_at}
use Rattle.search_theory.specs.States.{CellGoal}
use Rattle.search_theory.specs.DeadEnds.{IsDead}
use Rattle.search_theory.proofs.SearchSteps.{search-dead, search-left, search-visit}
use Rattle.term_store.specs.StoreView.{the_mark}
use Rattle.search_tree.specs.GivenUp.{HasLost}
use Rattle.search_tree.specs.Seeing.{HasSeen, SeeMore, no_goal}
use Rattle.connection_search.proofs.StandingLaws.{stack-dropped, stack-forgotten, stack-pushed}
use Rattle.connection_search.specs.Exploring.{IsStack, AreAbove, ArePointsFrom, IsBefore, IsExploring, IsSearched, IsSpace, IsVisiting}
use Rattle.search_tree.specs.Points.{IsHere, IsPoint}
use Rattle.search_tree.specs.Running.{IsAt, IsAtGoal, IsLeftFound, StandsFor}
use Rattle.search_tree.specs.declared.point.Point.{Point}
use Rattle.search_tree.specs.declared.tree.Goal.{Goal}
use Rattle.search_tree.specs.declared.tree.Step.{Step}
use Rattle.search_tree.proofs.MoveLaws.{open-first}
use Rattle.connection_search.proofs.SpentLaws.{stands-live}

-- ---- marks

take-short : {A : Type 0} (n : ℕ) (xs : List A) → length (take n xs) ≤ n
take-short zero xs = omega arith
take-short (suc n) [] = omega arith
take-short (suc n) (x ∷ xs) = let l = take-short n xs in omega (arith, l)

-- no good mark is later than one whose cut is all of the store
pub mark-later : (k m : TrailMark) (s : Store) → IsGood k s → cut_at m s ≡ s → IsEarlier k m
mark-later k m s g whole =
    let cells : length (cells_bound_by (take m.entries s.trail) 0 (take m.cells s.cells)) ≡ length s.cells = ap (λ (x : Store). length x.cells) whole in
    let bound = length-bound (take m.entries s.trail) 0 (take m.cells s.cells) in
    let short = take-short m.cells s.cells in
    let entries : length (take m.entries s.trail) ≡ length s.trail = ap (λ (x : Store). length x.trail) whole in
    let few = take-short m.entries s.trail in
    let a = g.cells in
    let b = g.entries in
    record { cells = omega (arith, cells, bound, short, a); entries = omega (arith, entries, few, b) }

-- ---- the leftmost open goal

pub goal-of : (P : Problem) (m : List MatrixClause) (base d : ℕ) (c : List Choice) (s : Store) (steps : List Step) (goals : List Goal) (first : Option ℕ) (goal : ℕ) → StandsFor P m base d c s steps goals first → first ≡ Some goal → (g : CellGoal) × IsAtGoal P m base d c s steps goals goal g
goal-of P m base d c s steps goals first goal (cs, x, at) e =
    let here = subst (λ o. IsAt P m base d c s steps goals o cs x) e at in
    let (g, gs, is, there) = open-first steps goals goal x.open_goals here.tree.open_goals in
    (g, record { made = cs; behind = gs; every = x.all_goals; depths = x.depths; at = subst (λ os. IsAt P m base d c s steps goals (Some goal) cs (record { open_goals = os; all_goals = x.all_goals; depths = x.depths })) is here })

-- ---- a goal is the same as one above it

pub visit-dead : (P : Problem) (m : List MatrixClause) (base d : ℕ) (s : Store) (steps : List Step) (goals : List Goal) (first : Option ℕ) (points : List Point) (later : List (List Choice)) (begun used : ℕ) (left : Bool) → (v : IsVisiting P m base d s steps goals first points later begun used left) → first ≡ None → IsDead P v.choices → IsExploring P m base d s steps goals points later begun used left
visit-dead P m base d s steps goals first points later begun used left v none dead = record {
  pending = v.pending;
  points = stack-forgotten P m base d s steps goals (reverse points) v.pending (subst (λ k. HasSeen k (reverse points)) none v.seen) v.points.are;
  searched = record {
    spent = v.searched.spent;
    search = search-dead P d v.searched.spent v.choices (v.pending ++ later) left v.searched.search v.not_empty dead;
    from = v.searched.from;
    count = v.searched.count;
  };
}

pub visit-repeated : (P : Problem) (m : List MatrixClause) (base d : ℕ) (s : Store) (steps : List Step) (goals : List Goal) (first : Option ℕ) (n : ℕ) (points after : List Point) (later : List (List Choice)) (begun used : ℕ) (left : Bool) → (v : IsVisiting P m base d s steps goals first points later begun used left) → IsDead P v.choices → HasLost P d v.choices n None → SeeMore n points after → IsExploring P m base d s steps goals after later begun used left
visit-repeated P m base d s steps goals first n points after later begun used left v dead lost more = record {
  pending = v.pending;
  points = stack-dropped P m base d s steps goals v.choices n points after v.pending v.not_empty lost more v.points;
  searched = record {
    spent = v.searched.spent;
    search = search-dead P d v.searched.spent v.choices (v.pending ++ later) left v.searched.search v.not_empty dead;
    from = v.searched.from;
    count = v.searched.count;
  };
}

-- ---- an open goal

-- points that were made before this moment
points-before : (P : Problem) (m : List MatrixClause) (base d : ℕ) (s : Store) (steps : List Step) (goals : List Goal) (first : Option ℕ) (p : Point) (ps : List Point) (pending : List (List Choice)) → IsHere p s steps goals first → ArePointsFrom P m base d s steps goals ps pending → AllByRecursion (IsBefore p) ps
points-before P m base d s steps goals first p [] pending h k = tt
points-before P m base d s steps goals first p (q ∷ ps) pending h (c, untried, g, below, e, point, before, rest) =
    let a = point.steps_within in
    let b = h.steps_are in
    let x = point.goals_within in
    let y = h.goals_are in (
      record { marks = mark-later (the_mark q.mark) (the_mark p.mark) s point.good h.whole; steps = omega (arith, a, b); goals = omega (arith, x, y) },
      points-before P m base d s steps goals first p ps below h rest,
    )

known-left : (P : Problem) (d : ℕ) (c : List Choice) (g : CellGoal) (known left : Bool) → IsLeftFound P d c g known left → left ≡ true → (known ≡ true) ⊎ IsLeft P d
known-left P d c g true left h e = inl refl
known-left P d c g false left h e = inr (h.is_left e refl)

searched-left : (P : Problem) (d : ℕ) (c : List Choice) (g : CellGoal) (pending : List (List Choice)) (begun used : ℕ) (known left : Bool) → IsLeftFound P d c g known left → IsSearched P d pending begun used known → IsSearched P d pending begun used left
searched-left P d c g pending begun used known true h k = elim (known-left P d c g known true h refl) [
  | inl e ↦ subst (IsSearched P d pending begun used) e k
  | inr l ↦ record { spent = k.spent; search = search-left P d k.spent pending known k.search l; from = k.from; count = k.count }
]
searched-left P d c g pending begun used known false h k = subst (IsSearched P d pending begun used) (h.unknown refl) k

-- the goal's choices come next
pub visit-goal : (P : Problem) (m : List MatrixClause) (base d : ℕ) (s : Store) (steps : List Step) (goals : List Goal) (first : Option ℕ) (points : List Point) (later : List (List Choice)) (begun used after : ℕ) (known left : Bool) (goal : ℕ) (g : CellGoal) (p : Point) → IsSpace P m d → (v : IsVisiting P m base d s steps goals first points later begun used known) → IsAtGoal P m base d v.choices s steps goals goal g → IsLeftFound P d v.choices g known left → IsPoint P m base d s steps goals p v.choices (choices_at m d g) g → IsHere p s steps goals (Some goal) → p.lowest ≡ no_goal → first ≡ Some goal → after ≡ used + 1 → IsExploring P m base d s steps goals (points ++ p ∷ []) later begun after left
visit-goal P m base d s steps goals first points later begun used after known left goal g p space v at found point here fresh leftmost k =
    let n = searched-left P d v.choices g (v.choices ∷ v.pending ++ later) begun used known left found v.searched in
    let visited = search-visit P m d n.spent v.choices (v.pending ++ later) left s at.made g at.behind at.every at.depths space.matrix.matrix space.from_one n.search v.not_empty at.at.running.state (stands-live P m base d v.choices s steps goals first v.stands) found.dead in
    record {
      pending = behind v.choices (choices_at m d g) ++ v.pending;
      points = subst (λ ps. IsStack P m base d s steps goals [] ps (behind v.choices (choices_at m d g) ++ v.pending)) (sym (reverse-append points (p ∷ [])))
          (stack-pushed P m base d s steps goals goal g p v.choices (reverse points) v.pending space v.not_empty at (subst (λ k. HasSeen k (reverse points)) leftmost v.seen) point here fresh (points-before P m base d s steps goals (Some goal) p (reverse points) v.pending here v.points.are) v.points);
      searched = record {
        spent = n.spent ++ with_choices d v.choices ∷ [];
        search = subst (λ ps. IsSearch P d (n.spent ++ with_choices d v.choices ∷ []) ps left) (sym (append_assoc (behind v.choices (choices_at m d g)) v.pending later)) visited;
        from = let e = n.from in omega (arith, e, k);
        count = let e = n.count in let l = length-append n.spent (with_choices d v.choices ∷ []) in omega (arith, e, k, l);
      };
    }

-- the same, at equal places
pub exploring-moved : (P : Problem) (m : List MatrixClause) (base d : ℕ) (old new : Store) (steps after : List Step) (goals all : List Goal) (points : List Point) (later : List (List Choice)) (begun used : ℕ) (left : Bool) → new ≡ old → after ≡ steps → all ≡ goals → IsExploring P m base d old steps goals points later begun used left → IsExploring P m base d new after all points later begun used left
exploring-moved P m base d old new steps after goals all points later begun used left es ea eb h = rw (es, ea, eb) h

above-more : (k : TrailMark) (points : List Point) (p : Point) → AreAbove k points → IsEarlier k (the_mark p.mark) → AreAbove k (points ++ p ∷ [])
above-more k [] p h e = (e, tt)
above-more k (q ∷ points) p h e = (h.0, above-more k points p h.1 e)

-- a point is made after each good mark
pub point-above : (k : TrailMark) (s : Store) (steps : List Step) (goals : List Goal) (first : Option ℕ) (points : List Point) (p : Point) → IsGood k s → AreAbove k points → IsHere p s steps goals first → AreAbove k (points ++ p ∷ [])
point-above k s steps goals first points p good h here = above-more k points p h (mark-later k (the_mark p.mark) s good here.whole)

-- ---- the ledger

pub is-used : (taken : Bool) (old new : ℕ) → new ≡ (if taken then old + 1 else old) → taken ≡ true → new ≡ old + 1
is-used taken old new e t = e ∙ ap (λ b. if b then old + 1 else old) t

pub not-used : (taken : Bool) (old new : ℕ) → new ≡ (if taken then old + 1 else old) → taken ≡ false → new ≡ old
not-used taken old new e t = e ∙ ap (λ b. if b then old + 1 else old) t

-- no step is left where none is taken
pub none-left : (taken : Bool) (old new budget after : ℕ) → (IsTrue taken ↔ old < budget) → old ≤ budget → taken ≡ false → new ≡ old → after ≡ budget → new ≡ after
none-left taken old new budget after h l t e k =
    let n : ¬ (old < budget) = λ m. false≢true (sym t ∙ h.1 m) in
    omega (arith, n, l, e, k)

pub later-limit : (d : ℕ) → d ≤ 200 → d ≤ 201
later-limit d l = omega (arith, l)
