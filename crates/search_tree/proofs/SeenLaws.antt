-- What the loops over the tree's goals have seen: which goals are the same as one above them.
use Rattle.std.proofs.Common.{◌≡◌, ◌+◌, ◌<◌, ◌≤◌, ℕ, suc, List, [], ◌∷◌, drop, length, IsTrue, sym, ◌∙◌, ap, subst, Option, None, Some, slice_get, arith}
use Rattle.std.specs.List.{AllByRecursion, list_all}
use Rattle.std.proofs.lemmas.Bool.{and_parts}
use Rattle.std.proofs.lemmas.Option.{slice_get_within}
use Rattle.plain_laws.proofs.Every.{all-at}
use Rattle.plain_laws.proofs.Places.{drop-end, drop-there, get-there}
use Rattle.plain_laws.proofs.Options.{same-some}
use Rattle.calculus.specs.Syntax.{Problem}
use Rattle.store_theory.specs.Stores.{Store}
use Rattle.store_theory.specs.Systems.{CellAtom}
use Rattle.search_theory.specs.CellsIn.{IsAtomIn, IsGoalIn}
use Rattle.search_theory.proofs.RegularLaws.{each-at}
use Rattle.search_theory.specs.Regular.{AreSame, IsNewGoal}
use Rattle.search_theory.specs.States.{CellGoal, atom_is_below, goal_is_below}
use Rattle.search_tree.specs.OwnStores.{AreOwn}
use Rattle.search_tree.specs.Sameness.{AnyRepeated, IsRepeated}
use Rattle.search_tree.specs.Trees.{AreGoals, IsGoalAt, IsPath, atom_at}
use Rattle.search_tree.specs.declared.tree.Goal.{Goal}
use Rattle.search_tree.specs.declared.tree.Step.{Step}
use Rattle.search_tree.proofs.TreeLaws.{AncestorAt, LooksFrom, ancestor-on, atom-found, goal-at, goals-length, looks-next, looks-none}

-- ---- one goal

-- so far the goal of this number is the same as none above it
pub record SeenTo (s : Store) (steps : List Step) (goals : List Goal) (goal : ℕ) (above : Option ℕ) (i : ℕ) : Type 0 where
  pub path : (x : CellGoal) → IsGoalAt steps goals goal x → IsPath steps goals above (drop i x.path)
  pub others : (P : Problem) (base : ℕ) (x : CellGoal) → IsGoalAt steps goals goal x → AreOwn P base s → IsGoalIn (λ r. base ≤ r) s x → LooksFrom s steps goals x above i

-- one above it is looked at
pub seen-ancestor : (s : Store) (steps : List Step) (goals : List Goal) (goal j i : ℕ) (x : CellGoal) → SeenTo s steps goals goal (Some j) i → IsGoalAt steps goals goal x → AncestorAt steps goals x j i
seen-ancestor s steps goals goal j i x h g = ancestor-on steps goals x j i (h.path x g)

pub seen-at : (s : Store) (steps : List Step) (goals : List Goal) (goal : ℕ) (above : Option ℕ) (j i : ℕ) → above ≡ Some j → SeenTo s steps goals goal above i → SeenTo s steps goals goal (Some j) i
seen-at s steps goals goal above j i e h = subst (λ k. SeenTo s steps goals goal k i) e h

pub seen-none : (s : Store) (steps : List Step) (goals : List Goal) (goal : ℕ) (above : Option ℕ) (i : ℕ) → above ≡ None → SeenTo s steps goals goal above i → (P : Problem) (base : ℕ) (x : CellGoal) → IsGoalAt steps goals goal x → AreOwn P base s → IsGoalIn (λ r. base ≤ r) s x → IsNewGoal s x
seen-none s steps goals goal above i e h P base x g c q = looks-none s steps goals x i (subst (λ k. LooksFrom s steps goals x k i) e (h.others P base x g c q))

-- its atom, and the one that is looked at, are below the size of the store
pub goal-below : (n : ℕ) (steps : List Step) (goals : List Goal) (goal : ℕ) (x : CellGoal) (a : CellAtom) → IsGoalAt steps goals goal x → IsTrue (goal_is_below n x) → ((g : Goal) → slice_get goals goal ≡ Some g → atom_at steps g ≡ Some a) → IsTrue (atom_is_below n a)
goal-below n steps goals goal x a g l f = subst (λ z. IsTrue (atom_is_below n z)) (sym (atom-found steps goals goal x a g f)) (and_parts (atom_is_below n x.literal) (list_all (atom_is_below n) x.path) l).0

pub ancestor-below : (n : ℕ) (steps : List Step) (goals : List Goal) (x : CellGoal) (j i : ℕ) (b : CellAtom) → AncestorAt steps goals x j i → IsTrue (goal_is_below n x) → ((g : Goal) → slice_get goals j ≡ Some g → atom_at steps g ≡ Some b) → IsTrue (atom_is_below n b)
ancestor-below n steps goals x j i b w l f = subst (λ z. IsTrue (atom_is_below n z)) (same-some (atom_at steps w.goal) w.atom b w.is_atom (f w.goal w.stands)) (all-at (atom_is_below n) x.path i w.atom (and_parts (atom_is_below n x.literal) (list_all (atom_is_below n) x.path) l).1 w.on_path)

-- as many as the goal is deep were passed
pub depth-passed : (steps : List Step) (goals : List Goal) (goal : ℕ) (x : CellGoal) (at : Goal) (i : ℕ) → IsGoalAt steps goals goal x → slice_get goals goal ≡ Some at → at.depth ≤ i → length x.path ≤ i
depth-passed steps goals goal x at i h e l =
    let same = ap (λ (g : Goal). g.depth) (same-some (slice_get goals goal) h.goal at h.stands e) in
    let d = h.is_goal.depth in
    omega (arith, same, d, l)

pub seen-next : (s : Store) (steps : List Step) (goals : List Goal) (goal j i : ℕ) (next : Goal) (a b : CellAtom) → SeenTo s steps goals goal (Some j) i → slice_get goals j ≡ Some next → ((g : Goal) → slice_get goals goal ≡ Some g → atom_at steps g ≡ Some a) → ((g : Goal) → slice_get goals j ≡ Some g → atom_at steps g ≡ Some b) → ((P : Problem) (base : ℕ) → AreOwn P base s → IsAtomIn (λ r. base ≤ r) s a → IsAtomIn (λ r. base ≤ r) s b → ¬ AreSame s a b) → SeenTo s steps goals goal next.above (i + 1)
seen-next s steps goals goal j i next a b h e fa fb other = record {
  path = λ x g. let w = seen-ancestor s steps goals goal j i x h g in subst (λ (k : Goal). IsPath steps goals k.above (drop (i + 1) x.path)) (same-some (slice_get goals j) w.goal next w.stands e) w.rest;
  others = λ P base x g c q.
      let w = seen-ancestor s steps goals goal j i x h g in
      let one : a ≡ x.literal = atom-found steps goals goal x a g fa in
      let two : b ≡ w.atom = same-some (atom_at steps w.goal) b w.atom (fb w.goal w.stands) w.is_atom in
      looks-next s steps goals x j i next (h.others P base x g c q) e (λ y on same.
      let three : y ≡ b = same-some (slice_get x.path i) y w.atom on w.on_path ∙ sym two in
      other P base c (subst (IsAtomIn (λ r. base ≤ r) s) (sym one) q.literal) (subst (IsAtomIn (λ r. base ≤ r) s) three (each-at (IsAtomIn (λ r. base ≤ r) s) x.path i y q.path on)) (subst (λ z. AreSame s z b) (sym one) (subst (AreSame s x.literal) three same)));
}

-- it is the same
pub seen-repeated : (s : Store) (steps : List Step) (goals : List Goal) (goal j i : ℕ) (a b : CellAtom) → SeenTo s steps goals goal (Some j) i → ((g : Goal) → slice_get goals goal ≡ Some g → atom_at steps g ≡ Some a) → ((g : Goal) → slice_get goals j ≡ Some g → atom_at steps g ≡ Some b) → AreSame s a b → (x : CellGoal) → IsGoalAt steps goals goal x → IsRepeated s x
seen-repeated s steps goals goal j i a b h fa fb same x g =
    let w = seen-ancestor s steps goals goal j i x h g in
    let one : a ≡ x.literal = atom-found steps goals goal x a g fa in
    let two : b ≡ w.atom = same-some (atom_at steps w.goal) b w.atom (fb w.goal w.stands) w.is_atom in
    (i, w.atom, w.on_path, subst (λ z. AreSame s z w.atom) one (subst (AreSame s a) two same))

-- ---- all goals

-- the goals from `first` up to this one are new
abbrev pub AreNewTo : Store → List Step → List Goal → ℕ → ℕ → Type 0
AreNewTo s steps goals first i = (P : Problem) (base : ℕ) (xs : List CellGoal) → AreGoals steps goals goals xs → AreOwn P base s → AllByRecursion (IsGoalIn (λ r. base ≤ r) s) xs → AllByRecursion (IsNewGoal s) (drop i xs) → AllByRecursion (IsNewGoal s) (drop first xs)

pub new-next : (s : Store) (steps : List Step) (goals : List Goal) (first i : ℕ) → AreNewTo s steps goals first i → i < length goals → ((P : Problem) (base : ℕ) (x : CellGoal) → IsGoalAt steps goals i x → AreOwn P base s → IsGoalIn (λ r. base ≤ r) s x → IsNewGoal s x) → AreNewTo s steps goals first (i + 1)
new-next s steps goals first i h l new P base xs g c q rest =
    let (k, at) = get-there goals i l in
    let (x, on, is) = goal-at steps goals xs i k g at in
    let more : i + 1 ≡ suc i = omega arith in
    h P base xs g c q (subst (AllByRecursion (IsNewGoal s)) (sym (drop-there xs i x on)) (new P base x is c (each-at (IsGoalIn (λ r. base ≤ r) s) xs i x q on), subst (λ n. AllByRecursion (IsNewGoal s) (drop n xs)) more rest))

pub new-all : (s : Store) (steps : List Step) (goals : List Goal) (first i : ℕ) → AreNewTo s steps goals first i → length goals ≤ i → (P : Problem) (base : ℕ) (xs : List CellGoal) → AreGoals steps goals goals xs → AreOwn P base s → AllByRecursion (IsGoalIn (λ r. base ≤ r) s) xs → AllByRecursion (IsNewGoal s) (drop first xs)
new-all s steps goals first i h l P base xs g c q =
    let n = goals-length steps goals goals xs g in
    h P base xs g c q (subst (AllByRecursion (IsNewGoal s)) (sym (drop-end xs i (omega (arith, n, l)))) tt)

pub repeated-at : (s : Store) (steps : List Step) (goals : List Goal) (n i : ℕ) → n ≤ i → i < length goals → ((x : CellGoal) → IsGoalAt steps goals i x → IsRepeated s x) → (xs : List CellGoal) → AreGoals steps goals goals xs → AnyRepeated s n xs
repeated-at s steps goals n i m l repeated xs g =
    let (k, at) = get-there goals i l in
    let (x, on, is) = goal-at steps goals xs i k g at in
    (i, x, m, on, repeated x is)

-- what is_new asks for
pub goal-wanted : (steps : List Step) (goals : List Goal) (n i : ℕ) (xs : List CellGoal) → AreGoals steps goals goals xs → IsTrue (list_all (goal_is_below n) xs) → i < length goals → (x : CellGoal) × IsGoalAt steps goals i x × IsTrue (goal_is_below n x)
goal-wanted steps goals n i xs g b l =
    let (k, at) = get-there goals i l in
    let (x, on, is) = goal-at steps goals xs i k g at in
    (x, is, all-at (goal_is_below n) xs i x b on)

-- the goal above one is one of them
pub above-within : (steps : List Step) (goals : List Goal) (xs : List CellGoal) (i : ℕ) (at : Goal) → AreGoals steps goals goals xs → slice_get goals i ≡ Some at → (k : ℕ) → at.above ≡ Some k → k < length goals
above-within steps goals xs i at g e k up =
    let (x, on, is) = goal-at steps goals xs i at g e in
    let same : is.goal ≡ at = same-some (slice_get goals i) is.goal at is.stands e in
    by x.path (subst (λ o. IsPath steps goals o x.path) up (subst (λ (z : Goal). IsPath steps goals z.above x.path) same is.is_goal.path))
  where
    by : (p : List CellAtom) → IsPath steps goals (Some k) p → k < length goals
    by [] h = let z : Some k ≡ None = h in absurd (cc z)
    by (a ∷ p) (j, y, here, stands, atom, rest) =
        let number : k ≡ j = cc here in
        let l = slice_get_within goals j y stands in
        omega (arith, number, l)
