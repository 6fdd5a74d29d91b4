-- The way up from a goal: what was seen of the goals above it, the nearest first.
use Rattle.std.proofs.Common.{◌≡◌, ◌≢◌, ◌⊎◌, ◌+◌, ◌<◌, ◌≤◌, ℕ, zero, suc, List, [], ◌∷◌, drop, refl, sym, ◌∙◌, subst, Option, None, Some, slice_get, arith, inl, inr}
use Rattle.std.proofs.lemmas.Bool.{cases_eq}
use Rattle.std.proofs.lemmas.Option.{slice_get_within}
use Rattle.plain_laws.proofs.Options.{same-some}
use Rattle.store_theory.specs.Systems.{CellAtom}
use Rattle.search_theory.specs.States.{CellGoal}
use Rattle.search_tree.specs.Trees.{IsGoalAt, IsPath, atom_at}
use Rattle.search_tree.specs.declared.tree.Goal.{Goal}
use Rattle.search_tree.specs.declared.tree.Step.{Step}
use Rattle.search_tree.proofs.SeenLaws.{depth-passed}
use Rattle.search_tree.proofs.TreeLaws.{AncestorAt, ancestor-on}

-- the goal `above` is the next one to be looked at, and each of the i before it has Q
pub record IsUpTo (Q : CellGoal → CellAtom → Type 0) (steps : List Step) (goals : List Goal) (goal : ℕ) (above : Option ℕ) (i : ℕ) : Type 0 where
  pub path : (x : CellGoal) → IsGoalAt steps goals goal x → IsPath steps goals above (drop i x.path)
  pub passed : (x : CellGoal) → IsGoalAt steps goals goal x → (k : ℕ) (a : CellAtom) → k < i → slice_get x.path k ≡ Some a → Q x a

pub up-first : (Q : CellGoal → CellAtom → Type 0) (steps : List Step) (goals : List Goal) (goal : ℕ) (at : Goal) → slice_get goals goal ≡ Some at → IsUpTo Q steps goals goal at.above 0
up-first Q steps goals goal at e = record {
  path = λ x h. subst (λ (g : Goal). IsPath steps goals g.above x.path) (same-some (slice_get goals goal) h.goal at h.stands e) h.is_goal.path;
  passed = λ x h k a l. absurd (omega (arith, l));
}

-- the one that is looked at
pub up-ancestor : (Q : CellGoal → CellAtom → Type 0) (steps : List Step) (goals : List Goal) (goal : ℕ) (above : Option ℕ) (j i : ℕ) (x : CellGoal) → IsUpTo Q steps goals goal above i → above ≡ Some j → IsGoalAt steps goals goal x → AncestorAt steps goals x j i
up-ancestor Q steps goals goal above j i x h e g = ancestor-on steps goals x j i (subst (λ k. IsPath steps goals k (drop i x.path)) e (h.path x g))

-- it has Q as well, as have those before it that had R
pub up-next : (Q R : CellGoal → CellAtom → Type 0) (steps : List Step) (goals : List Goal) (goal : ℕ) (above : Option ℕ) (j i : ℕ) (next : Goal) (b : CellAtom) → IsUpTo R steps goals goal above i → above ≡ Some j → slice_get goals j ≡ Some next → ((g : Goal) → slice_get goals j ≡ Some g → atom_at steps g ≡ Some b) → ((x : CellGoal) → IsGoalAt steps goals goal x → Q x b) → ((x : CellGoal) (a : CellAtom) → R x a → Q x a) → IsUpTo Q steps goals goal next.above (i + 1)
up-next Q R steps goals goal above j i next b h e at fb new keeps = record {
  path = λ x g. let w = up-ancestor R steps goals goal above j i x h e g in subst (λ (k : Goal). IsPath steps goals k.above (drop (i + 1) x.path)) (same-some (slice_get goals j) w.goal next w.stands at) w.rest;
  passed = λ x g k a l on.
      let w = up-ancestor R steps goals goal above j i x h e g in
      by x k a w.atom l on g w.on_path (same-some (atom_at steps w.goal) w.atom b w.is_atom (fb w.goal w.stands)) (cases_eq k i);
}
  where
    by : (x : CellGoal) (k : ℕ) (a c : CellAtom) → k < i + 1 → slice_get x.path k ≡ Some a → IsGoalAt steps goals goal x → slice_get x.path i ≡ Some c → c ≡ b → (k ≡ i) ⊎ (k ≢ i) → Q x a
    by x k a c l on g there same (inl q) = subst (Q x) (sym (same-some (slice_get x.path i) a c (subst (λ n. slice_get x.path n ≡ Some a) q on) there ∙ same)) (new x g)
    by x k a c l on g there same (inr other) = keeps x a (h.passed x g k a (omega (arith, l, other)) on)

-- nothing is above it any more
pub up-none : (Q : CellGoal → CellAtom → Type 0) (steps : List Step) (goals : List Goal) (goal : ℕ) (above : Option ℕ) (i : ℕ) → IsUpTo Q steps goals goal above i → above ≡ None → (x : CellGoal) → IsGoalAt steps goals goal x → (k : ℕ) (a : CellAtom) → slice_get x.path k ≡ Some a → Q x a
up-none Q steps goals goal above i h e x g k a on = h.passed x g k a (within x.path i k a (none (drop i x.path) (subst (λ o. IsPath steps goals o (drop i x.path)) e (h.path x g))) on) on
  where
    none : (p : List CellAtom) → IsPath steps goals None p → p ≡ []
    none [] q = refl
    none (b ∷ p) (j, y, at, stands, atom, rest) = let z : None ≡ Some j = at in absurd (cc z)

    within : (p : List CellAtom) (n j : ℕ) (b : CellAtom) → drop n p ≡ [] → slice_get p j ≡ Some b → j < n
    within [] n j b q there = let z : None ≡ Some b = there in absurd (cc z)
    within (c ∷ p) zero j b q there = let z : c ∷ p ≡ [] = q in absurd (cc z)
    within (c ∷ p) (suc n) zero b q there = omega arith
    within (c ∷ p) (suc n) (suc j) b q there = let l = within p n j b q there in omega (arith, l)

-- as many as the goal is deep were looked at
pub up-all : (Q : CellGoal → CellAtom → Type 0) (steps : List Step) (goals : List Goal) (goal : ℕ) (above : Option ℕ) (i : ℕ) (at : Goal) → IsUpTo Q steps goals goal above i → slice_get goals goal ≡ Some at → at.depth ≤ i → (x : CellGoal) → IsGoalAt steps goals goal x → (k : ℕ) (a : CellAtom) → slice_get x.path k ≡ Some a → Q x a
up-all Q steps goals goal above i at h e l x g k a on =
    let long = depth-passed steps goals goal x at i g e l in
    let inside = slice_get_within x.path k a on in
    h.passed x g k a (omega (arith, long, inside)) on
