-- Choices that are passed over: extensions whose literals names show not to be connected, and those without hope where the limit is known to
-- be left.
use Rattle.std.proofs.Common.{◌≡◌, ◌==◌, eqb-true, ◌+◌, ◌≤◌, ℕ, Bool, List, [], ◌∷◌, ◌++◌, length, true, MatchOption, refl, sym, ◌∙◌, ap, subst, Option, Some, None, option_map, slice_get, inl, inr, append_assoc}
use Rattle.std.specs.Bool.{⊤}
use Rattle.std.specs.List.{AllByRecursion}
use Rattle.plain_laws.proofs.Every.{each-push}
use Rattle.calculus.specs.Choices.{Choice}
use Rattle.calculus.specs.Space.{Member}
use Rattle.calculus.specs.Syntax.{Problem}
use Rattle.matrix_build.specs.MatrixView.{the_place}
use Rattle.matrix_build.specs.declared.index.Place.{Place}
use Rattle.store_theory.specs.Patterns.{PatternAtom, Template}
use Rattle.store_theory.specs.Stores.{Store}
use Rattle.store_theory.specs.Systems.{CellAtom}
use Rattle.search_theory.specs.Ahead.{IsHopelessAt, MarksPath}
use Rattle.search_theory.specs.Exploring.{behind}
use Rattle.search_theory.specs.Matrix.{MatrixClause, MatrixPlace}
use Rattle.search_theory.specs.OrderedChoices.{extension_at}
use Rattle.search_theory.specs.Searching.{IsSearch}
use Rattle.search_theory.specs.States.{CellGoal}
use Rattle.search_theory.proofs.BeginningLaws.{not-empty-behind}
use Rattle.search_theory.specs.DeadEnds.{refused}
use Rattle.search_theory.proofs.BarrenLaws.{hopeless-dropped}
use Rattle.search_theory.proofs.PruningLaws.{search-pruned}
use Rattle.search_theory.proofs.SearchSteps.{search-dead}
use Rattle.search_tree.specs.Ahead.{IsLeftmost, IsNextLeft, IsNextPlace, IsPassed, MayPassBy}
use Rattle.connection_search.specs.Exploring.{IsSearched}
use Rattle.search_tree.specs.Heads.{HasClash}
use Rattle.search_tree.specs.Points.{HasExtensions, HasUntried, IsNextAncestor, IsSamePoint}
use Rattle.search_tree.specs.Pruning.{IsPruned}
use Rattle.search_tree.specs.Running.{ExtendsBy, IsAtGoal, IsMatrixOf}
use Rattle.search_tree.specs.Trees.{IsGoalAt, atom_at}
use Rattle.search_tree.specs.declared.point.Move.{Move}
use Rattle.search_tree.specs.declared.point.Move.TheVariants.{Extend}
use Rattle.search_tree.specs.declared.point.Point.{Point}
use Rattle.search_tree.specs.declared.tree.Goal.{Goal}
use Rattle.search_tree.specs.declared.tree.Step.{Step}
use Rattle.search_tree.proofs.MoveLaws.{clause-for, extension-clashes, goal-here, place-clause, place_of}
use Rattle.search_tree.proofs.PointLaws.{extension-none, untried-behind, untried-later, untried-step}
use Rattle.search_tree.proofs.TreeLaws.{atom-found}

-- the leftmost open goal by the tree
pub leftmost-at : (P : Problem) (m : List MatrixClause) (base d : ℕ) (c : List Choice) (s : Store) (steps : List Step) (goals : List Goal) (goal : ℕ) (g : CellGoal) (a : CellAtom) → IsAtGoal P m base d c s steps goals goal g → ((x : Goal) → slice_get goals goal ≡ Some x → atom_at steps x ≡ Some a) → IsLeftmost P m base d c s a g
leftmost-at P m base d c s steps goals goal g a at f = record { steps = steps; goals = goals; goal = goal; at = at; atom = atom-found steps goals goal g a (goal-here P m base d c s steps goals goal g at) f }

-- ---- why an extension is passed over

-- by these marks it is without hope
pub passed-by_marks : (P : Problem) (m : List MatrixClause) (d : ℕ) (c : List Choice) (g : CellGoal) (left : Bool) (p : MatrixPlace) (o : Option ℕ) (marks : ℕ) → o ≡ Some marks → MayPassBy d g left o → (MarksPath marks (g.literal ∷ g.path) → IsHopelessAt m p g) → IsPassed P m d c g left (extension_at m p)
passed-by_marks P m d c g left p None marks e h bad = let z : None ≡ Some marks = e in absurd (cc z)
passed-by_marks P m d c g left p (Some n) marks e (known, near, marked) bad = inr (known, near, (p, refl, bad (subst (λ k. MarksPath k (g.literal ∷ g.path)) (let z : n ≡ marks = cc e in z) marked)))

-- names show that no tree follows it
pub passed-by_names : (P : Problem) (m : List MatrixClause) (base d : ℕ) (c : List Choice) (s : Store) (k place : ℕ) (g : CellGoal) (left : Bool) (t : Template) (qs : List PatternAtom) (q : PatternAtom) (a : CellAtom) → IsMatrixOf P m → IsLeftmost P m base d c s a g → ExtendsBy m d g (place_of k place) → option_map (λ (x : MatrixClause). x.template) (slice_get m k) ≡ Some t → qs ≡ t.literals → slice_get qs place ≡ Some q → HasClash s a q → IsPassed P m d c g left (extension_at m (place_of k place))
passed-by_names P m base d c s k place g left t qs q a tm h e at is there clash = inl (extension-clashes P m base d c s h.steps h.goals h.goal k place g t q a h.at (clause-for P m k t tm (place-clause m d g (place_of k place) e) at) (subst (λ xs. slice_get xs place ≡ Some q) is there) h.atom clash)

-- the marks by which extensions of the goal may be passed over, if any
pub marks-here : (P : Problem) (m : List MatrixClause) (base d : ℕ) (c : List Choice) (s : Store) (steps : List Step) (goals : List Goal) (goal : ℕ) (g : CellGoal) (left : Bool) (o : Option ℕ) → IsAtGoal P m base d c s steps goals goal g → MatchOption o ⊤ (λ marks. (left ≡ true) × ((x : CellGoal) → IsGoalAt steps goals goal x → (d ≤ length x.path + 1) × MarksPath marks (x.literal ∷ x.path))) → MayPassBy d g left o
marks-here P m base d c s steps goals goal g left None at h = tt
marks-here P m base d c s steps goals goal g left (Some marks) at (known, each) = let w = each g (goal-here P m base d c s steps goals goal g at) in (known, w.0, w.1)

-- ---- the extensions that are left behind those that are passed over

-- these extensions were passed over, and those are left
pub record PassesTo (P : Problem) (m : List MatrixClause) (d : ℕ) (c : List Choice) (g : CellGoal) (xs : List Choice) (left : Bool) (now : Point) : Type 0 where
  pub passed : List Choice
  pub each : AllByRecursion (IsPassed P m d c g left) passed
  pub rest : List Choice
  pub are : xs ≡ passed ++ rest
  pub has : HasExtensions m d now g rest

pub passes-next : (P : Problem) (m : List MatrixClause) (d : ℕ) (c : List Choice) (g : CellGoal) (xs : List Choice) (left : Bool) (now after : Point) (x : Choice) → (h : PassesTo P m d c g xs left now) → (rest : List Choice) × (h.rest ≡ x ∷ rest) × HasExtensions m d after g rest → IsPassed P m d c g left x → PassesTo P m d c g xs left after
passes-next P m d c g xs left now after x h (rest, e, has) why = record {
  passed = h.passed ++ x ∷ [];
  each = each-push (IsPassed P m d c g left) h.passed x h.each why;
  rest = rest;
  are = h.are ∙ ap (λ ys. h.passed ++ ys) e ∙ sym (append_assoc h.passed (x ∷ []) rest);
  has = has;
}

-- what comes next behind them
pub passes-left : (P : Problem) (m : List MatrixClause) (d : ℕ) (c : List Choice) (g : CellGoal) (xs : List Choice) (left : Bool) (now after : Point) (o : Option Place) → (h : PassesTo P m d c g xs left now) → MatchOption o (h.rest ≡ []) (λ q. ExtendsBy m d g (the_place q) × ((rest : List Choice) × (h.rest ≡ extension_at m (the_place q) ∷ rest) × HasExtensions m d after g rest)) → IsNextPlace P m d c after g xs left o
passes-left P m d c g xs left now after None h e = record { passed = h.passed; each = h.each; next = h.are ∙ ap (λ ys. h.passed ++ ys) e }
passes-left P m d c g xs left now after (Some q) h (extends, (rest, e, has)) = record { passed = h.passed; each = h.each; next = (extends, (rest, h.are ∙ ap (λ ys. h.passed ++ ys) e, has)) }

-- there is none to look at
pub passes-none : (P : Problem) (m : List MatrixClause) (d : ℕ) (c : List Choice) (g : CellGoal) (xs : List Choice) (left : Bool) (p : Point) → HasExtensions m d p g xs → (p.next == p.end) ≡ true → IsNextPlace P m d c p g xs left None
passes-none P m d c g xs left p h e = record { passed = []; each = tt; next = extension-none m d p g xs h (eqb-true p.next p.end e) }

-- ---- the next choice

-- a reduction is not passed over
pub left-ancestor : (P : Problem) (m : List MatrixClause) (d : ℕ) (c : List Choice) (steps : List Step) (goals : List Goal) (before after : Point) (g : CellGoal) (untried : List Choice) (left : Bool) (step : Move) → HasUntried m d steps goals before g untried → IsNextAncestor steps goals g before after (Some step) → after.next ≡ before.next → after.end ≡ before.end → after.depth ≡ before.depth → IsNextLeft P m d c steps goals after g untried left (Some step)
left-ancestor P m d c steps goals before after g untried left step h n en ee ed = record { passed = []; each = tt; next = untried-step m d steps goals before after g untried step h n en ee ed }

-- where no ancestor is left
pub left-extension : (P : Problem) (m : List MatrixClause) (d : ℕ) (c : List Choice) (steps : List Step) (goals : List Goal) (before mid after : Point) (g : CellGoal) (untried : List Choice) (left : Bool) (place : Place) → (h : HasUntried m d steps goals before g untried) → IsNextAncestor steps goals g before mid None → IsNextPlace P m d c after g h.later left (Some place) → after.above ≡ mid.above → after.up ≡ mid.up → after.depth ≡ before.depth → IsNextLeft P m d c steps goals after g untried left (Some (Extend place))
left-extension P m d c steps goals before mid after g untried left place h n w ea eu ed =
    let (extends, (rest, e, has)) = w.next in
    record { passed = w.passed; each = w.each; next = (extends, (rest, untried-later m d steps goals before mid g untried h n ∙ e, untried-behind m d steps goals before mid after g untried rest h n has ea eu ed)) }

pub left-none : (P : Problem) (m : List MatrixClause) (d : ℕ) (c : List Choice) (steps : List Step) (goals : List Goal) (before mid after : Point) (g : CellGoal) (untried : List Choice) (left : Bool) → (h : HasUntried m d steps goals before g untried) → IsNextAncestor steps goals g before mid None → IsNextPlace P m d c after g h.later left None → IsNextLeft P m d c steps goals after g untried left None
left-none P m d c steps goals before mid after g untried left h n w = record { passed = w.passed; each = w.each; next = untried-later m d steps goals before mid g untried h n ∙ w.next }

pub same-both : (p q r : Point) → IsSamePoint p q → IsSamePoint q r → IsSamePoint p r
same-both p q r h k = record { mark = k.mark ∙ h.mark; steps = k.steps ∙ h.steps; goals = k.goals ∙ h.goals; goal = k.goal ∙ h.goal; depth = k.depth ∙ h.depth; lowest = k.lowest ∙ h.lowest }

-- ---- the search without them

-- one that is passed over goes from what is pending
passed-first : (P : Problem) (m : List MatrixClause) (base d : ℕ) (c : List Choice) (s : Store) (steps : List Step) (goals : List Goal) (goal : ℕ) (g : CellGoal) (left : Bool) (x : Choice) (spent : List Member) (pending : List (List Choice)) → IsMatrixOf P m → IsAtGoal P m base d c s steps goals goal g → IsPassed P m d c g left x → IsSearch P d spent ((c ++ x ∷ []) ∷ pending) left → IsSearch P d spent pending left
passed-first P m base d c s steps goals goal g left x spent pending tm at (inl none) h = search-dead P d spent (c ++ x ∷ []) pending left h (not-empty-behind c x) (refused none)
passed-first P m base d c s steps goals goal g left x spent pending tm at (inr (known, near, (p, is, bad))) h =
    subst (IsSearch P d spent pending) (sym known)
    (search-pruned P d spent (c ++ x ∷ []) pending (subst (IsSearch P d spent ((c ++ x ∷ []) ∷ pending)) known h) (subst (λ z. IsPruned P d (c ++ z ∷ [])) (sym is) (hopeless-dropped P m d c s at.made g at.behind at.every at.depths p tm.matrix at.at.running.state near bad)))

dropped : (P : Problem) (m : List MatrixClause) (base d : ℕ) (c : List Choice) (s : Store) (steps : List Step) (goals : List Goal) (goal : ℕ) (g : CellGoal) (left : Bool) (passed rest : List Choice) (later : List (List Choice)) (begun used : ℕ) → IsMatrixOf P m → IsAtGoal P m base d c s steps goals goal g → AllByRecursion (IsPassed P m d c g left) passed → IsSearched P d (behind c (passed ++ rest) ++ later) begun used left → IsSearched P d (behind c rest ++ later) begun used left
dropped P m base d c s steps goals goal g left [] rest later begun used tm at k h = h
dropped P m base d c s steps goals goal g left (x ∷ passed) rest later begun used tm at (why, k) h = dropped P m base d c s steps goals goal g left passed rest later begun used tm at k (record {
  spent = h.spent;
  search = passed-first P m base d c s steps goals goal g left x h.spent (behind c (passed ++ rest) ++ later) tm at why h.search;
  from = h.from;
  count = h.count;
})

pub passed-over : (P : Problem) (m : List MatrixClause) (base d : ℕ) (c : List Choice) (s : Store) (steps : List Step) (goals : List Goal) (goal : ℕ) (g : CellGoal) (left : Bool) (passed rest untried : List Choice) (later : List (List Choice)) (begun used : ℕ) → IsMatrixOf P m → IsAtGoal P m base d c s steps goals goal g → AllByRecursion (IsPassed P m d c g left) passed → untried ≡ passed ++ rest → IsSearched P d (behind c untried ++ later) begun used left → IsSearched P d (behind c rest ++ later) begun used left
passed-over P m base d c s steps goals goal g left passed rest untried later begun used tm at k e h = dropped P m base d c s steps goals goal g left passed rest later begun used tm at k (subst (λ xs. IsSearched P d (behind c xs ++ later) begun used left) e h)
