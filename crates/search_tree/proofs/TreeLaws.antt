-- The links of the program's tree.
use Rattle.std.proofs.Common.{◌≡◌, ◌+◌, ◌≤◌, ℕ, zero, suc, List, [], ◌∷◌, drop, length, refl, sym, ◌∙◌, ap, subst, Option, None, Some, slice_get, arith}
use Rattle.std.specs.List.{AllByRecursion}
use Rattle.plain_laws.proofs.Places.{drop-end, drop-there}
use Rattle.plain_laws.proofs.Options.{same-some}
use Rattle.store_theory.specs.Stores.{Store}
use Rattle.store_theory.specs.Systems.{CellAtom}
use Rattle.search_theory.specs.Regular.{AreSame, IsNewGoal}
use Rattle.search_theory.specs.States.{CellGoal}
use Rattle.search_tree.specs.Trees.{AreGoals, IsGoal, IsGoalAt, IsPath, atom_at}
use Rattle.search_tree.specs.declared.tree.Goal.{Goal}
use Rattle.search_tree.specs.declared.tree.Step.{Step}

-- ---- atoms

-- the atom of a goal that is found
pub atom-found : (steps : List Step) (goals : List Goal) (i : ℕ) (x : CellGoal) (a : CellAtom) → IsGoalAt steps goals i x → ((g : Goal) → slice_get goals i ≡ Some g → atom_at steps g ≡ Some a) → a ≡ x.literal
atom-found steps goals i x a h f = same-some (atom_at steps h.goal) a x.literal (f h.goal h.stands) h.is_goal.literal

-- ---- the way up from a goal

-- the goal `above` is the next one to be looked at: those before it are not the same
pub record LooksFrom (s : Store) (steps : List Step) (goals : List Goal) (x : CellGoal) (above : Option ℕ) (i : ℕ) : Type 0 where
  pub path : IsPath steps goals above (drop i x.path)
  pub others : AllByRecursion (λ (a : CellAtom). ¬ AreSame s x.literal a) (drop i x.path) → IsNewGoal s x

-- the ancestor that is looked at
pub record AncestorAt (steps : List Step) (goals : List Goal) (x : CellGoal) (j i : ℕ) : Type 0 where
  pub goal : Goal
  pub atom : CellAtom
  pub stands : slice_get goals j ≡ Some goal
  pub is_atom : atom_at steps goal ≡ Some atom
  pub on_path : slice_get x.path i ≡ Some atom
  pub rest : IsPath steps goals goal.above (drop (i + 1) x.path)

get-dropped : {A : Type 0} (xs : List A) (i : ℕ) (a : A) (ys : List A) → drop i xs ≡ a ∷ ys → (slice_get xs i ≡ Some a) × (ys ≡ drop (suc i) xs)
get-dropped [] zero a ys e = let q : [] ≡ a ∷ ys = e in absurd (cc q)
get-dropped [] (suc i) a ys e = let q : [] ≡ a ∷ ys = e in absurd (cc q)
get-dropped (x ∷ xs) zero a ys e = (let p : x ≡ a = cc e in ap Some p, let q : xs ≡ ys = cc e in sym q)
get-dropped (x ∷ xs) (suc i) a ys e = get-dropped xs i a ys e

pub ancestor-on : (steps : List Step) (goals : List Goal) (x : CellGoal) (j i : ℕ) → IsPath steps goals (Some j) (drop i x.path) → AncestorAt steps goals x j i
ancestor-on steps goals x j i h = by (drop i x.path) refl h
  where
    by : (p : List CellAtom) → drop i x.path ≡ p → IsPath steps goals (Some j) p → AncestorAt steps goals x j i
    by [] e q = let z : Some j ≡ None = q in absurd (cc z)
    by (a ∷ p) e (k, g, at, stands, atom, rest) =
        let f = get-dropped x.path i a p e in
        let same : j ≡ k = cc at in
        let more : suc i ≡ i + 1 = omega arith in
        record { goal = g; atom = a; stands = ap (slice_get goals) same ∙ stands; is_atom = atom; on_path = f.0; rest = subst (IsPath steps goals g.above) (f.1 ∙ ap (λ n. drop n x.path) more) rest }

-- it is not the same
pub looks-next : (s : Store) (steps : List Step) (goals : List Goal) (x : CellGoal) (j i : ℕ) (next : Goal) → LooksFrom s steps goals x (Some j) i → slice_get goals j ≡ Some next → ((a : CellAtom) → slice_get x.path i ≡ Some a → ¬ AreSame s x.literal a) → LooksFrom s steps goals x next.above (i + 1)
looks-next s steps goals x j i next h e other =
    let w = ancestor-on steps goals x j i h.path in
    let more : i + 1 ≡ suc i = omega arith in
    record {
      path = subst (λ (g : Goal). IsPath steps goals g.above (drop (i + 1) x.path)) (same-some (slice_get goals j) w.goal next w.stands e) w.rest;
      others = λ k. h.others (subst (AllByRecursion (λ (a : CellAtom). ¬ AreSame s x.literal a)) (sym (drop-there x.path i w.atom w.on_path)) (other w.atom w.on_path, subst (λ n. AllByRecursion (λ (a : CellAtom). ¬ AreSame s x.literal a) (drop n x.path)) more k));
    }

-- nothing is above it any more
pub looks-none : (s : Store) (steps : List Step) (goals : List Goal) (x : CellGoal) (i : ℕ) → LooksFrom s steps goals x None i → IsNewGoal s x
looks-none s steps goals x i h = h.others (by (drop i x.path) h.path)
  where
    by : (p : List CellAtom) → IsPath steps goals None p → AllByRecursion (λ (a : CellAtom). ¬ AreSame s x.literal a) p
    by [] q = tt
    by (a ∷ p) (k, g, at, stands, atom, rest) = let z : None ≡ Some k = at in absurd (cc z)

-- all above it were looked at
pub looks-all : (s : Store) (steps : List Step) (goals : List Goal) (x : CellGoal) (above : Option ℕ) (i : ℕ) → LooksFrom s steps goals x above i → length x.path ≤ i → IsNewGoal s x
looks-all s steps goals x above i h l = h.others (subst (AllByRecursion (λ (a : CellAtom). ¬ AreSame s x.literal a)) (sym (drop-end x.path i l)) tt)

-- ---- all goals

pub goal-of : (steps : List Step) (goals some : List Goal) (xs : List CellGoal) (i : ℕ) (g : Goal) → AreGoals steps goals some xs → slice_get some i ≡ Some g → (x : CellGoal) × (slice_get xs i ≡ Some x) × IsGoal steps goals g x
goal-of steps goals [] xs i g h e = let z : None ≡ Some g = e in absurd (cc z)
goal-of steps goals (k ∷ some) xs zero g (x, ys, is, q, rest) e = let same : k ≡ g = cc e in (x, ap (λ zs. slice_get zs 0) is, subst (λ (z : Goal). IsGoal steps goals z x) same q)
goal-of steps goals (k ∷ some) xs (suc i) g (x, ys, is, q, rest) e = let w = goal-of steps goals some ys i g rest e in (w.0, ap (λ zs. slice_get zs (suc i)) is ∙ w.1, w.2)

pub goals-length : (steps : List Step) (goals some : List Goal) (xs : List CellGoal) → AreGoals steps goals some xs → length xs ≡ length some
goals-length steps goals [] xs h = ap length h
goals-length steps goals (g ∷ some) xs (x, ys, is, q, rest) = ap length is ∙ ap suc (goals-length steps goals some ys rest)

-- the goal of a number
pub goal-at : (steps : List Step) (goals : List Goal) (xs : List CellGoal) (i : ℕ) (g : Goal) → AreGoals steps goals goals xs → slice_get goals i ≡ Some g → (x : CellGoal) × (slice_get xs i ≡ Some x) × IsGoalAt steps goals i x
goal-at steps goals xs i g h e = let w = goal-of steps goals goals xs i g h e in (w.0, w.1, record { goal = g; stands = e; is_goal = w.2 })
