-- What deciding a list without open goals comes to: the lists of lengths for which solving used a step, and what the tree's system asks.
use Rattle.std.proofs.Common.{◌≡◌, ◌+◌, ◌-◌, ◌≤◌, ℕ, suc, List, [], ◌∷◌, ◌++◌, length, map, Bool, true, false, IsTrue, refl, sym, ◌∙◌, ap, subst, Option, None, arith, nat_le, leb-true, reverse}
use Rattle.std.specs.List.{AllByRecursion}
use Rattle.std.proofs.lemmas.Bool.{false≢true}
use Rattle.std.proofs.lemmas.List.{length-append, length-map}
use Rattle.plain_laws.proofs.Every.{all-at}
use Rattle.connection_search.proofs.BindingKept.{own-occurs}
use Rattle.calculus.specs.declared.setting.Logic.{Logic}
use Rattle.calculus.specs.Choices.{Choice}
use Rattle.calculus.specs.Counting.{AtLeastMany, IsRising, MoreThan}
use Rattle.calculus.specs.Space.{IsEarly, has_labels, lengths_cmp, member_cmp, with_choices, with_lengths}
use Rattle.store_theory.specs.Stores.{Store}
use Rattle.calculus.specs.Syntax.{Problem}
use Rattle.store_theory.specs.Systems.{AllAllowed, AreEarly, HasBoundedSolution, NamesItsStrings, System, cells_of, is_system}
use Rattle.prefix_split.specs.LengthSearch as lengths
use Rattle.prefix_split.specs.declared.solving.Solved.{Solved}
use Rattle.prefix_split.specs.declared.solving.Solved.TheVariants as solved
use Rattle.search_theory.specs.Exploring.{IsClosedList, IsMemberAt}
use Rattle.search_theory.specs.Matrix.{MatrixClause}
use Rattle.search_theory.specs.States.{CellGoal, State}
use Rattle.search_theory.proofs.LabelledEnd.{solves-by_state, solving-many}
use Rattle.search_theory.proofs.SystemLaws.{member-tried, no-closed-list, tree-by_state}
use Rattle.search_theory.proofs.WholeLaws.{search-lengths}
use Rattle.connection_search.specs.Deciding.{IsDecided, IsEnded, IsSolvedTree, IsSolving}
use Rattle.tableau_reading.specs.Solving.{IsSolved}
use Rattle.search_tree.specs.Seeing.{HasSeen}
use Rattle.connection_search.proofs.StandingLaws.{stack-forgotten}
use Rattle.connection_search.specs.Exploring.{IfOn, IsCounted, IsEnd, IsExploring, IsSpace, IsVisiting}
use Rattle.search_tree.specs.Running.{IsRunning, StandsFor}
use Rattle.search_tree.specs.Trees.{AreGoals, tree_system}
use Rattle.connection_search.specs.declared.visit.Visit.{Visit}
use Rattle.connection_search.specs.declared.visit.Visit.TheVariants as visit
use Rattle.search_tree.specs.declared.point.Point.{Point}
use Rattle.search_tree.specs.declared.tree.Goal.{Goal}
use Rattle.search_tree.specs.declared.tree.Step.{Step}
use Rattle.search_tree.specs.declared.tree.Tree.{Tree}
use Rattle.search_tree.proofs.RunningLaws.{running-ground}
use Rattle.connection_search.proofs.SpentLaws.{fewer, none-open, stands-live, visit-counted}
use Rattle.tableau_reading.proofs.SolvingLaws.{uncounted}

-- ---- what the tree stands for

-- its system names the strings that occur in it
pub strings-named : (P : Problem) (base d : ℕ) (c : List Choice) (S : State) (y : System) → IsRunning P base d c S y → NamesItsStrings S.store y
strings-named P base d c S y h v free (i, r, e, occurs) =
    let l : base ≤ r = leb-true base r (all-at (nat_le base) (cells_of y) i r h.cells e) in
    h.strings v (own-occurs P base S.store v r h.own l occurs) free

-- no closed tableau has its list where its system has no bounded solution
pub none-closed : (P : Problem) (m : List MatrixClause) (base d : ℕ) (c : List Choice) (s : Store) (steps : List Step) (goals : List Goal) (first : Option ℕ) → (h : StandsFor P m base d c s steps goals first) → IsTrue (has_labels P.setting.logic) → ¬ HasBoundedSolution P.setting.logic (AllAllowed P) s (tree_system m steps goals h.1.all_goals) → ¬ IsClosedList P d c
none-closed P m base d c s steps goals first h labels none =
    let cs = h.0 in
    let x = h.1 in
    let at = h.2 in
    no-closed-list P d c (record { store = s; choices = cs; growth = x }) (tree_system m steps goals x.all_goals) labels at.running.state at.running.system none

-- ---- the lists of lengths for which a step was used

-- where steps were used from `mid` on
pub record AreTriedLists (P : Problem) (d : ℕ) (c : List Choice) (s : Store) (y : System) (mid after : ℕ) : Type 0 where
  pub tried : List (List ℕ)
  pub rising : IsRising lengths_cmp tried
  pub members : AllByRecursion (λ ns. IsMemberAt P d (with_lengths d c ns)) tried
  pub from : mid ≤ after
  pub count : after ≤ mid + length tried

-- early lists are members
members-of : (P : Problem) (d : ℕ) (c : List Choice) (s : Store) (y : System) → ((ns : List ℕ) → AreEarly P.setting.logic (AllAllowed P) s y ns → IsMemberAt P d (with_lengths d c ns)) → (tried : List (List ℕ)) → AllByRecursion (AreEarly P.setting.logic (AllAllowed P) s y) tried → AllByRecursion (λ ns. IsMemberAt P d (with_lengths d c ns)) tried
members-of P d c s y f [] h = tt
members-of P d c s y f (ns ∷ tried) h = (f ns h.0, members-of P d c s y f tried h.1)

module _ (P : Problem) (m : List MatrixClause) (base d : ℕ) (c : List Choice) (s : Store) (steps : List Step) (goals : List Goal) (first : Option ℕ) (h : StandsFor P m base d c s steps goals first) (whole : first ≡ None) (one : 1 ≤ d) where
  pub early-members : IsTrue (has_labels P.setting.logic) → (tried : List (List ℕ)) → AllByRecursion (AreEarly P.setting.logic (AllAllowed P) s (tree_system m steps goals h.1.all_goals)) tried → AllByRecursion (λ ns. IsMemberAt P d (with_lengths d c ns)) tried
  early-members labels tried early =
      let cs = h.0 in
      let x = h.1 in
      let at = h.2 in
      let y = tree_system m steps goals x.all_goals in
      let (σ, number, distinct, ground) = running-ground P base d c (record { store = s; choices = cs; growth = x }) y at.running in
      members-of P d c s y (λ ns e. member-tried P d c (record { store = s; choices = cs; growth = x }) y ns one labels (tree-by_state P d c (record { store = s; choices = cs; growth = x }) at.running.state) at.running.system (none-open steps goals first x.open_goals at.tree.open_goals whole) σ ground e.tried) tried early

  pub tried-of : (mid after : ℕ) → IsSolving P m s steps goals mid after → AreTriedLists P d c s (tree_system m steps goals h.1.all_goals) mid after
  tried-of mid after k = by (has_labels P.setting.logic) refl
    where
      by : (b : Bool) → has_labels P.setting.logic ≡ b → AreTriedLists P d c s (tree_system m steps goals h.1.all_goals) mid after
      by false e = let same = k.none e in record { tried = []; rising = tt; members = tt; from = omega (arith, same); count = omega (arith, same) }
      by true e =
          let q = k.counted h.1.all_goals h.2.tree.goals in
          let from = q.from in
          let (xs, are, n) = q.early in
          record { tried = xs; rising = are.rising; members = early-members e xs are.members; from = from; count = omega (arith, n, from) }

-- ---- visits of lists without open goals

module _ (P : Problem) (m : List MatrixClause) (base d : ℕ) (s : Store) (steps : List Step) (goals : List Goal) (first : Option ℕ) (points : List Point) (later : List (List Choice)) (begun used mid after : ℕ) (left : Bool) (space : IsSpace P m d) (v : IsVisiting P m base d s steps goals first points later begun used left) (whole : first ≡ None) (taken : mid ≡ used + 1) where
  many : IsTrue (has_labels P.setting.logic) → (xs : List (List ℕ)) → IsRising lengths_cmp xs → AllByRecursion (AreEarly P.setting.logic (AllAllowed P) s (tree_system m steps goals v.stands.1.all_goals)) xs → AtLeastMany member_cmp (IsEarly P d) (length v.searched.spent + suc (length xs))
  many labels xs rising early =
      let cs = v.stands.0 in
      let x = v.stands.1 in
      let at = v.stands.2 in
      let S : State = record { store = s; choices = cs; growth = x } in
      let y = tree_system m steps goals x.all_goals in
      solving-many P d v.searched.spent v.choices (v.pending ++ later) S y xs v.searched.search.explores space.from_one (stands-live P m base d v.choices s steps goals first v.stands) labels (solves-by_state P d v.choices S y labels at.running.state at.running.system) rising (early-members P m base d v.choices s steps goals first v.stands whole space.from_one labels xs early) early

  pub solving-counted : IsSolving P m s steps goals mid after → IsCounted P d begun after
  solving-counted k = by (has_labels P.setting.logic) refl
    where
      by : (b : Bool) → has_labels P.setting.logic ≡ b → IsCounted P d begun after
      by false e = visit-counted P m base d s steps goals first points later begun used after left space v (k.none e ∙ taken)
      by true e =
          let q = k.counted v.stands.1.all_goals v.stands.2.tree.goals in
          let from = q.from in
          let (xs, are, n) = q.early in
          let a = v.searched.from in
          let b = v.searched.count in
          let l : after - begun ≤ length v.searched.spent + suc (length xs) = omega (arith, from, n, a, b, taken) in
          (omega (arith, from, a, taken), fewer member_cmp (IsEarly P d) (after - begun) (length v.searched.spent + suc (length xs)) l (many e xs are.rising are.members))

  pub solving-ended : (budget : ℕ) → IsSolving P m s steps goals mid after → IsEnded P m s steps goals mid after budget → MoreThan member_cmp (IsEarly P d) (after - begun)
  solving-ended budget k e =
      let from = (k.counted v.stands.1.all_goals v.stands.2.tree.goals).from in
      let (xs, are, n) = e.more_early v.stands.1.all_goals v.stands.2.tree.goals in
      let a = v.searched.from in
      let b = v.searched.count in
      let (zs, r, l) = many e.labels xs are.rising are.members in
      (zs, r, omega (arith, from, n, a, b, taken, l))

  -- no closed tableau has the list
  pub solving-none : IsSolving P m s steps goals mid after → ¬ IsClosedList P d v.choices → IsExploring P m base d s steps goals points later begun after left
  solving-none k none =
      let at = v.stands.2 in
      let S : State = record { store = s; choices = v.stands.0; growth = v.stands.1 } in
      let t = tried-of P m base d v.choices s steps goals first v.stands whole space.from_one mid after k in
      let a = v.searched.from in
      let b = v.searched.count in
      let f = t.from in
      let n = t.count in
      let l = length-append v.searched.spent (with_choices d v.choices ∷ map (with_lengths d v.choices) t.tried) in
      let q = length-map t.tried (with_lengths d v.choices) in
      record {
        pending = v.pending;
        points = stack-forgotten P m base d s steps goals (reverse points) v.pending (subst (λ k. HasSeen k (reverse points)) whole v.seen) v.points.are;
        searched = record {
          spent = v.searched.spent ++ with_choices d v.choices ∷ map (with_lengths d v.choices) t.tried;
          search = search-lengths P d v.searched.spent v.choices (v.pending ++ later) left S t.tried v.searched.search space.from_one v.not_empty at.running.state (none-open steps goals first v.stands.1.open_goals at.tree.open_goals whole) (stands-live P m base d v.choices s steps goals first v.stands) t.rising t.members none;
          from = omega (arith, a, f, taken);
          count = omega (arith, b, f, n, taken, l, q);
        };
      }

-- ---- solving

pub labels-of : (P : Problem) (l : Logic) (b : Bool) → l ≡ P.setting.logic → b ≡ has_labels l → b ≡ true → IsTrue (has_labels P.setting.logic)
labels-of P l b e f g = ap has_labels (sym e) ∙ sym f ∙ g

-- ---- the tree's system

-- the system that was made is the tree's
abbrev pub IsMade : List MatrixClause → List Step → List Goal → System → Type 0
IsMade m steps goals y = (xs : List CellGoal) → AreGoals steps goals goals xs → y ≡ tree_system m steps goals xs

pub made-fits : (P : Problem) (m : List MatrixClause) (base d : ℕ) (c : List Choice) (s : Store) (steps : List Step) (goals : List Goal) (first : Option ℕ) (y : System) → StandsFor P m base d c s steps goals first → IsMade m steps goals y → IsTrue (is_system s y) × NamesItsStrings s y
made-fits P m base d c s steps goals first y (cs, x, at) made =
    let e = sym (made x.all_goals at.tree.goals) in (
      subst (λ z. IsTrue (is_system s z)) e at.running.system.well,
      subst (NamesItsStrings s) e (strings-named P base d c (record { store = s; choices = cs; growth = x }) (tree_system m steps goals x.all_goals) at.running),
    )

pub made-solved : (P : Problem) (m : List MatrixClause) (s new : Store) (steps : List Step) (goals : List Goal) (before after budget : ℕ) (y : System) (a : Solved) → IsTrue (has_labels P.setting.logic) → IsMade m steps goals y → IsSolved P s y before after budget new a → IsSolvedTree P m s steps goals before after budget new a
made-solved P m s new steps goals before after budget y a labels made h = record { labels = λ n. labels; solved = λ n xs g. subst (λ z. IsSolved P s z before after budget new a) (made xs g) h }

pub made-counted : (P : Problem) (m : List MatrixClause) (s : Store) (steps : List Step) (goals : List Goal) (before after : ℕ) (y : System) → IsTrue (has_labels P.setting.logic) → IsMade m steps goals y → lengths.IsCounted P.setting.logic (AllAllowed P) s y before after → IsSolving P m s steps goals before after
made-counted P m s steps goals before after y labels made h = record { counted = λ xs g. subst (λ z. lengths.IsCounted P.setting.logic (AllAllowed P) s z before after) (made xs g) h; none = λ e. absurd (false≢true (sym e ∙ labels)) }

-- where no step was used
pub unsolved : (P : Problem) (m : List MatrixClause) (s : Store) (steps : List Step) (goals : List Goal) (used : ℕ) → IsSolving P m s steps goals used used
unsolved P m s steps goals used = record { counted = λ xs g. uncounted P s (tree_system m steps goals xs) used; none = λ e. refl }

pub found-tree : (P : Problem) (m : List MatrixClause) (s new : Store) (steps : List Step) (goals : List Goal) (before after budget : ℕ) → IsSolvedTree P m s steps goals before after budget new solved.Found
found-tree P m s new steps goals before after budget = record { labels = λ n. absurd (n refl); solved = λ n. absurd (n refl) }

found-apart : (a : Solved) → a ≡ solved.None → ¬ (a ≡ solved.Found)
found-apart a e f = let z : solved.None ≡ solved.Found = sym e ∙ f in cc z

steps-apart : (a : Solved) → a ≡ solved.Steps → ¬ (a ≡ solved.Found)
steps-apart a e f = let z : solved.Steps ≡ solved.Found = sym e ∙ f in cc z

-- ---- what the list comes to

pub decided-none : (P : Problem) (m : List MatrixClause) (base d : ℕ) (c : List Choice) (s new : Store) (steps : List Step) (goals : List Goal) (first : Option ℕ) (before after budget : ℕ) (a : Solved) → StandsFor P m base d c s steps goals first → a ≡ solved.None → IsSolvedTree P m s steps goals before after budget new a → (¬ IsClosedList P d c) × (new ≡ s)
decided-none P m base d c s new steps goals first before after budget a h e t =
    let n = found-apart a e in
    let k = t.solved n h.1.all_goals h.2.tree.goals in
    (none-closed P m base d c s steps goals first h (t.labels n) (k.none e), k.unchanged n)

pub decided-ended : (P : Problem) (m : List MatrixClause) (s new : Store) (steps : List Step) (goals : List Goal) (before after budget : ℕ) (a : Solved) (xs : List CellGoal) → AreGoals steps goals goals xs → a ≡ solved.Steps → IsSolvedTree P m s steps goals before after budget new a → IsEnded P m s steps goals before after budget
decided-ended P m s new steps goals before after budget a xs g e t =
    let n = steps-apart a e in
    record { labels = t.labels n; ended = (t.solved n xs g).ended e; more_early = λ ys k. (t.solved n ys k).more_early e }

-- ---- visits that decide

-- the same tree
pub visiting-in : (P : Problem) (m : List MatrixClause) (base d : ℕ) (s : Store) (now before : Tree) (points : List Point) (later : List (List Choice)) (begun used : ℕ) (left : Bool) → now ≡ before → IsVisiting P m base d s before.steps.items before.goals.items before.open points later begun used left → IsVisiting P m base d s now.steps.items now.goals.items now.open points later begun used left
visiting-in P m base d s now before points later begun used left e h = subst (λ (z : Tree). IsVisiting P m base d s z.steps.items z.goals.items z.open points later begun used left) (sym e) h

pub on-when : (w : Visit) (A : Type 0) → (w ≡ visit.On → A) → IfOn w A
on-when visit.On A f = f refl
on-when (visit.Closed t) A f = tt
on-when visit.Steps A f = tt

module _ (P : Problem) (m : List MatrixClause) (base d : ℕ) (s : Store) (steps : List Step) (goals : List Goal) (first : Option ℕ) (points : List Point) (later : List (List Choice)) (begun used mid after : ℕ) (left : Bool) (space : IsSpace P m d) (v : IsVisiting P m base d s steps goals first points later begun used left) (whole : first ≡ None) (taken : mid ≡ used + 1) where
  pub decided-on : (budget : ℕ) (new : Store) (w : Visit) → w ≡ visit.On → IsSolving P m s steps goals mid after → IsDecided P m d v.choices s steps goals mid after budget new w → IsExploring P m base d new steps goals points later begun after left
  decided-on budget new w on k h =
      let (none, same) = subst (IsDecided P m d v.choices s steps goals mid after budget new) on h in
      subst (λ t. IsExploring P m base d t steps goals points later begun after left) (sym same) (solving-none P m base d s steps goals first points later begun used mid after left space v whole taken k none)

  pub decided-end : (budget : ℕ) (new : Store) (w : Visit) → IsSolving P m s steps goals mid after → IsDecided P m d v.choices s steps goals mid after budget new w → IsEnd P d begun after budget w
  decided-end budget new visit.On k h = tt
  decided-end budget new (visit.Closed t) k h = h.0
  decided-end budget new visit.Steps k h = (h.ended, solving-ended P m base d s steps goals first points later begun used mid after left space v whole taken budget k h)
