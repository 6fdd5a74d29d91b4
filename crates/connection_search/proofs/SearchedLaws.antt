-- The search at one limit, clause by clause, and the space of a problem.
use Rattle.std.proofs.Common.{◌≡◌, ◌+◌, ◌<◌, ◌≤◌, ℕ, suc, List, [], ◌∷◌, drop, length, map, Bool, true, false, IsTrue, Option, refl, sym, ◌∙◌, ap, subst, Some, slice_get, arith, Result, Ok, Err}
use Rattle.std.specs.Prelude.{IfOk, option_map}
use Rattle.plain_laws.proofs.Places.{drop-end, drop-there, get-there}
use Rattle.store_theory.specs.Bindings.{KeepsMarks}
use Rattle.calculus.specs.Choices.{Choice, IsLeft, start}
use Rattle.calculus.specs.Problems.{is_problem}
use Rattle.store_theory.specs.Stores.{IsGood, Store, TrailMark, cut_at}
use Rattle.calculus.specs.Syntax.{Problem}
use Rattle.calculus.specs.Tableaux.{HasClosed}
use Rattle.store_theory.proofs.BindingLaws.{KeepsMarks-both, KeepsMarks-same}
use Rattle.logic_rules.proofs.ProblemFacts.{kept}
use Rattle.search_theory.specs.DeadEnds.{IsDead, is_not_empty}
use Rattle.search_theory.proofs.DeepenLaws.{starting}
use Rattle.search_theory.proofs.MatrixStart.{dead-start, search-start_all}
use Rattle.search_theory.proofs.SearchSteps.{search-dead, search-ended}
use Rattle.search_theory.specs.Exploring.{behind}
use Rattle.search_theory.specs.Matrix.{IsTemplateMatrix, MatrixClause, all_shown}
use Rattle.search_theory.specs.Searching.{IsSearch}
use Rattle.search_theory.specs.OrderedChoices.{selection_of}
use Rattle.term_store.specs.Room.{KeepsRoom, TermStore, spare}
use Rattle.search_tree.proofs.RunningLaws.{clause-at}
use Rattle.connection_search.specs.Exploring.{IfOn, IsExploring, IsSearched, IsSpace, IsVisiting}
use Rattle.connection_search.specs.Outcomes.{IfSteps}
use Rattle.search_tree.specs.Running.{IsMatrixOf, StandsFor}
use Rattle.connection_search.specs.declared.visit.Visit.{Visit}
use Rattle.connection_search.specs.declared.visit.Visit.TheVariants as visit
use Rattle.search_tree.specs.declared.point.Point.{Point}
use Rattle.connection_search.specs.declared.searching.Outcome.{Outcome}
use Rattle.connection_search.specs.declared.searching.Outcome.TheVariants as outcome
use Rattle.search_tree.specs.declared.tree.Goal.{Goal}
use Rattle.search_tree.specs.declared.tree.Step.{Step}

-- ---- what was searched

-- a dead end is passed
pub searched-dead : (P : Problem) (d : ℕ) (p : List Choice) (later : List (List Choice)) (begun used : ℕ) (left : Bool) → IsTrue (is_not_empty p) → IsDead P p → IsSearched P d (p ∷ later) begun used left → IsSearched P d later begun used left
searched-dead P d p later begun used left n dead h = record { spent = h.spent; search = search-dead P d h.spent p later left h.search n dead; from = h.from; count = h.count }

-- the list of a start comes first, where its tree stands
pub visiting-first : (P : Problem) (m : List MatrixClause) (base d : ℕ) (c : List Choice) (s : Store) (steps : List Step) (goals : List Goal) (first : Option ℕ) (later : List (List Choice)) (begun used : ℕ) (left : Bool) → IsTrue (is_not_empty c) → StandsFor P m base d c s steps goals first → IsSearched P d (c ∷ later) begun used left → IsVisiting P m base d s steps goals first [] later begun used left
visiting-first P m base d c s steps goals first later begun used left n h k = record { choices = c; stands = h; not_empty = n; pending = []; points = record { are = refl; solved = tt }; seen = tt; searched = k }

-- no point is there
pub visiting-none : (P : Problem) (m : List MatrixClause) (base d : ℕ) (s : Store) (steps : List Step) (goals : List Goal) (first : Option ℕ) (points : List Point) (later : List (List Choice)) (begun used : ℕ) (left : Bool) → points ≡ [] → IsVisiting P m base d s steps goals first [] later begun used left → IsVisiting P m base d s steps goals first points later begun used left
visiting-none P m base d s steps goals first points later begun used left e h = subst (λ ps. IsVisiting P m base d s steps goals first ps later begun used left) (sym e) h

-- ---- what a search without end says of all states

abbrev pub SearchesPoints : Problem → List MatrixClause → ℕ → Store → List Step → List Goal → List Point → ℕ → Bool → ℕ → Bool → Type 0
SearchesPoints P m d s steps goals points used left used_after left_after = (base : ℕ) (later : List (List Choice)) (begun : ℕ) → IsSpace P m d → IsExploring P m base d s steps goals points later begun used left → IsSearched P d later begun used_after left_after

abbrev pub SearchesTree : Problem → List MatrixClause → ℕ → Store → List Step → List Goal → Option ℕ → ℕ → Bool → ℕ → Bool → Type 0
SearchesTree P m d s steps goals first used left used_after left_after = (base : ℕ) (later : List (List Choice)) (begun : ℕ) → IsSpace P m d → IsVisiting P m base d s steps goals first [] later begun used left → IsSearched P d later begun used_after left_after

abbrev pub SearchesList : Problem → List MatrixClause → ℕ → List Choice → ℕ → Bool → ℕ → Bool → Type 0
SearchesList P m d c used left used_after left_after = (later : List (List Choice)) (begun : ℕ) → IsSpace P m d → IsSearched P d (c ∷ later) begun used left → IsSearched P d later begun used_after left_after

pub on-map : (v : Visit) (A B : Type 0) → (A → B) → IfOn v A → IfOn v B
on-map visit.On A B f a = f a
on-map (visit.Closed t) A B f a = tt
on-map visit.Steps A B f a = tt

-- ---- the clauses in order

-- the starts with the clauses from the number k on
abbrev pub starts_from : List MatrixClause → ℕ → List (List Choice)
starts_from m k = behind [] (starting (map (λ (c : MatrixClause). c.selection) (drop k m)))

pub starts-next : (m : List MatrixClause) (k : ℕ) → k < length m → starts_from m k ≡ (start (selection_of (slice_get m k)) ∷ []) ∷ starts_from m (k + 1)
starts-next m k l =
    let (c, e) = get-there m k l in
    let next : suc k ≡ k + 1 = omega arith in
    ap (λ cs. behind [] (starting (map (λ (c : MatrixClause). c.selection) cs))) (drop-there m k c e)
    ∙ ap (λ i. (start c.selection ∷ []) ∷ starts_from m i) next
    ∙ ap (λ o. (start (selection_of o) ∷ []) ∷ starts_from m (k + 1)) (sym e)

pub starts-end : (m : List MatrixClause) (k : ℕ) → length m ≤ k → starts_from m k ≡ []
starts-end m k l = ap (λ cs. behind [] (starting (map (λ (c : MatrixClause). c.selection) cs))) (drop-end m k l)

-- before the first clause
pub searched-first : (P : Problem) (m : List MatrixClause) (d used : ℕ) → IsTemplateMatrix P m → IsSearched P d (starts_from m 0) used used false
searched-first P m d used h = record {
  spent = [];
  search = subst (λ sss. IsSearch P d [] (behind [] (starting sss)) false) (sym h.in_order) (search-start_all P d);
  from = omega arith;
  count = omega arith;
}

-- before each clause, which has the number i
pub searched-next : (P : Problem) (m : List MatrixClause) (d k i begun used : ℕ) (left : Bool) → k < length m → i ≡ k → IsSearched P d (starts_from m k) begun used left → IsSearched P d ((start (selection_of (slice_get m i)) ∷ []) ∷ starts_from m (k + 1)) begun used left
searched-next P m d k i begun used left l e h = subst (λ n. IsSearched P d ((start (selection_of (slice_get m n)) ∷ []) ∷ starts_from m (k + 1)) begun used left) (sym e) (subst (λ ps. IsSearched P d ps begun used left) (starts-next m k l) h)

-- behind the last clause
pub searched-end : (P : Problem) (m : List MatrixClause) (d k begun used : ℕ) (left : Bool) → length m ≤ k → IsSearched P d (starts_from m k) begun used left → (¬ HasClosed P d) × (left ≡ true → IsLeft P d) × (IsLeft P d → left ≡ true)
searched-end P m d k begun used left l h = let e = search-ended P d h.spent left (subst (λ ps. IsSearch P d h.spent ps left) (starts-end m k l) h.search) in (e.0, e.1.0, e.1.1)

-- a clause with a literal of sign T starts nothing
pub searched-refused : (P : Problem) (m : List MatrixClause) (d k : ℕ) (later : List (List Choice)) (begun used : ℕ) (left : Bool) → IsMatrixOf P m → k < length m → option_map (λ (x : MatrixClause). all_shown x.template) (slice_get m k) ≡ Some false → IsSearched P d ((start (selection_of (slice_get m k)) ∷ []) ∷ later) begun used left → IsSearched P d later begun used left
searched-refused P m d k later begun used left h l refused s =
    let c = clause-at P m k h l in
    let e : Some (all_shown c.clause.template) ≡ Some false = ap (option_map (λ (x : MatrixClause). all_shown x.template)) (sym c.stands) ∙ refused in
    let f : all_shown c.clause.template ≡ false = cc e in
    searched-dead P d (start c.clause.selection ∷ []) later begun used left refl (dead-start P c.clause.selection c.clause.template c.template f)
    (subst (λ o. IsSearched P d ((start (selection_of o) ∷ []) ∷ later) begun used left) c.stands s)

-- ---- stores

-- undone to a mark of the whole
pub back-again : (k : TrailMark) (before made after now : Store) → IsGood k before → cut_at k before ≡ before → KeepsMarks before made → KeepsMarks made after → now ≡ cut_at k after → now ≡ before
back-again k before made after now g whole m n e = e ∙ (KeepsMarks-both before made after m n k g).1 ∙ whole

pub marks-of_same : (before now : Store) → now ≡ before → KeepsMarks before now
marks-of_same before now e = subst (KeepsMarks before) (sym e) (KeepsMarks-same before)

pub room-both : (a b c : TermStore) → KeepsRoom a b → KeepsRoom b c → KeepsRoom a c
room-both a b c (x, y) (z, w) = (omega (arith, x, z), omega (arith, y, w))

pub spare-kept : (a b : TermStore) → b.store ≡ a.store → KeepsRoom a b → spare a ≤ spare b
spare-kept a b e (x, y) =
    let cells : length b.store.cells ≡ length a.store.cells = ap (λ (s : Store). length s.cells) e in
    let trail : length b.store.trail ≡ length a.store.trail = ap (λ (s : Store). length s.trail) e in
    omega (arith, cells, trail, x, y)

-- ---- answers

pub ok-map : {A E : Type 0} (r : Result A E) (Q R : A → Type 0) → ((a : A) → Q a → R a) → IfOk r Q → IfOk r R
ok-map (Ok a) Q R f h = f a h
ok-map (Err e) Q R f h = h

pub steps-map : (o : Outcome) (A B : Type 0) → (A → B) → IfSteps o A → IfSteps o B
steps-map (outcome.Closed t) A B f a = tt
steps-map (outcome.Empty left) A B f a = tt
steps-map outcome.Steps A B f a = f a

-- ---- the space of a problem

pub space-of : (P : Problem) (m : List MatrixClause) (d : ℕ) → IsTrue (is_problem P) → IsTemplateMatrix P m → 1 ≤ d → d ≤ 200 → IsSpace P m d
space-of P m d h matrix from to = record {
  problem = h;
  matrix = record { fits = (kept P h).formula; matrix = matrix };
  from_one = from;
  to_200 = to;
}
