-- One pair of cells: what holds of the ends of their bindings, or of the pairs of their parts, holds of the pair.
use Rattle.std.proofs.Common.{◌⊎◌, ◌≡◌, ◌<◌, ◌≤◌, arith, true, ◌∷◌, [], length, ℕ, List, refl, sym, subst, inl, inr}
use Rattle.plain_laws.proofs.Places.{get-within}
use Rattle.calculus.specs.Equality.{sort_eq}
use Rattle.store_theory.specs.Stores.{Store, OccursIn, here, EndsAt, stays, Solution, Solves}
use Rattle.store_theory.specs.Bindings.{IsWellFormed, MayBind, SolvesPairs, with_binding, BindsOnly, BindsWithin, Unifies, AreApart}
use Rattle.store_theory.proofs.SolutionLaws.{occurs-apart, some_solution}
use Rattle.term_store.specs.declared.cell.End.{End}
use Rattle.term_store.specs.declared.cell.Ref.{Ref}
use Rattle.term_store.specs.Shown.{Shows, the_head}
use Rattle.term_store.proofs.StoreFacts.{shown-end}
use Rattle.term_unify.specs.declared.compare.Step.TheVariants as step
use Rattle.term_unify.specs.Closed.{IsClosedBelow}
use Rattle.term_unify.specs.Steps.{AreBuilt, AddsParts, AreDifferent, BindsInPairs, DiffersBy, IsBinding, IsStep, OccursBefore, OccursInPairs, SolvesAll, head_sort, is_open_head}
use Rattle.term_unify.proofs.ClosedLaws.{newer-apart}
use Rattle.term_unify.proofs.PairLaws.{ComesTo, alike-unbound, comes-binding, comes-ends, comes-first, comes-parts, occurs-built, occurs-from_end, unified-binding, unified-done, unified-first}
use Rattle.term_unify.proofs.StepLaws.{both-ends, ended, step-right}

-- ---- a list of one pair

occurs-first : (s : Store) (v a b : ℕ) → OccursInPairs s v ((a, b) ∷ []) → OccursIn s v a ⊎ OccursIn s v b
occurs-first s v a b (inl o) = o
occurs-first s v a b (inr o) = absurd o

unifies-one : (s t : Store) (a b : ℕ) → SolvesAll s t ((a, b) ∷ []) → IsWellFormed t → Unifies a b s t
unifies-one s t a b h w = (λ σ. (λ k. let p = (h σ).0 k in (p.0, p.1.0), λ k q. (h σ).1 (k, (q, tt))), some_solution t w.fits w.rank)

within-one : (s t : Store) (a b : ℕ) → BindsInPairs ((a, b) ∷ []) s t → BindsWithin a b s t
within-one s t a b h = record { bound = λ v k sort f g. occurs-first s v a b (h v k sort f g).0; target = λ v k sort f g. occurs-first s k a b (h v k sort f g).1 }

-- ---- a pair that is decided at once

pub unifies-same : (s : Store) (a b : ℕ) → IsWellFormed s → ((σ : Solution) → Solves s σ → σ a ≡ σ b) → Unifies a b s s
unifies-same s a b w h = (λ σ. (λ k. (k, h σ k), λ k q. k), some_solution s w.fits w.rank)

-- what is bound to a cell in which it does not occur
pub binds-pair : (s t : Store) (a b : ℕ) (v r : Ref) → IsWellFormed s → a < length s.cells → b < length s.cells → IsStep s a b (step.Bind v r) → ¬ OccursIn s v.0 r.0 → t ≡ with_binding v.0 r.0 s → Unifies a b s t × BindsOnly s t × BindsWithin a b s t
binds-pair s t a b v r w k l (binding, equal, ends) n e =
    let one = comes-first s ((a, b) ∷ []) (k, l, tt) in
    let u = unified-binding s s ((a, b) ∷ []) ((a, b) ∷ []) [] v.0 r.0 (unified-first s ((a, b) ∷ []) (k, l, tt) w) binding (comes-binding s ((a, b) ∷ []) ((a, b) ∷ []) [] a b v.0 r.0 one refl equal) (comes-ends s ((a, b) ∷ []) ((a, b) ∷ []) [] a b v.0 r.0 one refl ends) tt n in
    subst (λ x. Unifies a b s x × BindsOnly s x × BindsWithin a b s x) (sym e) (
      unifies-one s (with_binding v.0 r.0 s) a b (unified-done s (with_binding v.0 r.0 s) ((a, b) ∷ []) [] u (λ σ h. tt)) u.sound,
      u.binds,
      within-one s (with_binding v.0 r.0 s) a b u.within,
    )

-- an unbound variable that may be bound at once
pub record IsNewer (s : Store) (a b : ℕ) (r v : Ref) : Type 0 where
  pub binds : IsStep s a b (step.Bind v r)
  pub free : ¬ OccursIn s v.0 r.0

-- it is not below the number, and the other cell is
pub newer-pair : (s : Store) (n a b : ℕ) (left right : End) → EndsAt s a left.place.0 → Shows s left.place.0 left.content → EndsAt s b right.place.0 → Shows s right.place.0 right.content → is_open_head (the_head right.content) ≡ true → sort_eq (head_sort (the_head right.content)) (head_sort (the_head left.content)) ≡ true → left.place.0 < n → n ≤ right.place.0 → IsClosedBelow n s → IsNewer s a b left.place right.place
newer-pair s n a b left right e f g h o t l m w =
    let x = ended s a left.place.0 (the_head left.content) e (shown-end s a left.place.0 left.content e f).0 in
    let y = ended s b right.place.0 (the_head right.content) g (shown-end s b right.place.0 right.content g h).0 in
    record {
      binds = step-right s a b left.place.0 right.place.0 (the_head left.content) (the_head right.content) x y (λ q. omega (arith, l, m, q)) t o;
      free = newer-apart n s right.place.0 left.place.0 w l m;
    }

pub newer-may : (s : Store) (a b : ℕ) (r v : Ref) → IsNewer s a b r v → MayBind s v.0 r.0
newer-may s a b r v h = let (binding, equal, ends) = h.binds in record { sort = binding.sort; open_cell = binding.open_cell; same_sort = binding.same_sort; no_cycle = h.free }

-- what occurs in the cell that it would be bound to
pub occurs-pair : (s : Store) (a b : ℕ) (v r : Ref) → IsStep s a b (step.Bind v r) → OccursIn s v.0 r.0 → AreApart a b s
occurs-pair s a b v r (binding, equal, ends) o σ h q = occurs-apart s σ v.0 r.0 binding.end.0 h binding.end.1 (occurs-built s v.0 r.0 binding o) o binding.other ((equal σ h).0 q)

pub differs-binding : (s : Store) (a b : ℕ) (v r : Ref) → IsStep s a b (step.Bind v r) → DiffersBy s a b v.0 r.0
differs-binding s a b v r (binding, equal, ends) = record {
  binding = binding;
  forces = λ σ h q. (equal σ h).0 q;
  occurs = elim ends [ inl p ↦ inl (occurs-from_end s v.0 a v.0 p.0 here) | inr p ↦ inr (occurs-from_end s v.0 b v.0 p.0 here) ];
}

-- ---- from the ends of bindings to the pair

pub unifies-ends : (s t : Store) (a b x y : ℕ) → EndsAt s a x → EndsAt s b y → Unifies x y s t → Unifies a b s t
unifies-ends s t a b x y f g (h, some) = (
  λ σ. (
    λ k. let p = (h σ).0 k in (p.0, (both-ends s σ a b x y p.0 f g).1 p.1),
    λ k q. (h σ).1 k ((both-ends s σ a b x y k f g).0 q),
  ),
  some,
)

pub apart-ends : (s : Store) (a b x y : ℕ) → EndsAt s a x → EndsAt s b y → AreApart x y s → AreApart a b s
apart-ends s a b x y f g h σ k q = h σ k ((both-ends s σ a b x y k f g).0 q)

pub within-ends : (s t : Store) (a b x y : ℕ) → EndsAt s a x → EndsAt s b y → BindsWithin x y s t → BindsWithin a b s t
within-ends s t a b x y f g w = record {
  bound = λ v k sort e o. up v (w.bound v k sort e o);
  target = λ v k sort e o. up k (w.target v k sort e o);
}
  where
    up : (v : ℕ) → OccursIn s v x ⊎ OccursIn s v y → OccursIn s v a ⊎ OccursIn s v b
    up v (inl o) = inl (occurs-from_end s v a x f o)
    up v (inr o) = inr (occurs-from_end s v b y g o)

pub same-ends : (s : Store) (a b x y : ℕ) → AreBuilt s x y × EndsAt s a x × EndsAt s b y → ((σ : Solution) → Solves s σ → σ x ≡ σ y) → (σ : Solution) → Solves s σ → σ a ≡ σ b
same-ends s a b x y (u, f, g) h σ k = (both-ends s σ a b x y k f g).1 (h σ k)

pub different-ends : (s : Store) (a b x y : ℕ) → AreBuilt s x y × EndsAt s a x × EndsAt s b y → AreDifferent s x y → AreDifferent s a b
different-ends s a b x y (u, f, g) (inl h) = inl (λ σ k q. h σ k ((both-ends s σ a b x y k f g).0 q))
different-ends s a b x y (u, f, g) (inr (v, r, d)) = inr (
  v,
  r,
  record {
    binding = d.binding;
    forces = λ σ k q. d.forces σ k ((both-ends s σ a b x y k f g).0 q);
    occurs = elim d.occurs [ inl o ↦ inl (occurs-from_end s v a x f o) | inr o ↦ inr (occurs-from_end s v b y g o) ];
  },
)

-- ---- from the pairs of parts to the pair

pub parts-come : (s : Store) (a b : ℕ) (before ps : List (ℕ × ℕ)) → IsWellFormed s → AreBuilt s a b → before ≡ [] → AddsParts s a b before ps → ComesTo s ((a, b) ∷ []) ps
parts-come s a b before ps w u e added =
    let k = get-within s.cells a u.left u.left_at in
    let l = get-within s.cells b u.right u.right_at in
    let n = alike-unbound u.left u.right u.alike in
    comes-parts s ((a, b) ∷ []) ((a, b) ∷ []) [] ps a b a b w (comes-first s ((a, b) ∷ []) (k, l, tt)) refl (u, stays u.left_at n.0, stays u.right_at n.1) (subst (λ qs. AddsParts s a b qs ps) e added)

pub unifies-parts : (s t : Store) (a b : ℕ) (ps : List (ℕ × ℕ)) → ComesTo s ((a, b) ∷ []) ps → SolvesAll s t ps → IsWellFormed t → Unifies a b s t
unifies-parts s t a b ps c h w = unifies-one s t a b (λ σ. (λ k. let p = (h σ).0 k in (p.0, c.up σ p.0 p.1), λ p. (h σ).1 (p.0, c.down σ p.0 p.1))) w

pub apart-parts : (s : Store) (a b : ℕ) (ps : List (ℕ × ℕ)) → ComesTo s ((a, b) ∷ []) ps → ((σ : Solution) → Solves s σ → ¬ SolvesPairs σ ps) → AreApart a b s
apart-parts s a b ps c h σ k q = h σ k (c.down σ k (q, tt))

pub within-parts : (s t : Store) (a b : ℕ) (ps : List (ℕ × ℕ)) → ComesTo s ((a, b) ∷ []) ps → BindsInPairs ps s t → BindsWithin a b s t
within-parts s t a b ps c h = within-one s t a b (λ v k sort e f. let p = h v k sort e f in (c.occurs v p.0, c.occurs k p.1))

pub same-parts : (s : Store) (a b : ℕ) (ps : List (ℕ × ℕ)) → ComesTo s ((a, b) ∷ []) ps → ((σ : Solution) → Solves s σ → SolvesPairs σ ps) → (σ : Solution) → Solves s σ → σ a ≡ σ b
same-parts s a b ps c h σ k = (c.up σ k (h σ k)).0

-- parts that a binding would make equal
pub differs-parts : (s : Store) (a b v r : ℕ) (ps qs : List (ℕ × ℕ)) → ComesTo s ((a, b) ∷ []) ps → IsBinding s v r → ((σ : Solution) → Solves s σ → (SolvesPairs σ ps → (σ v ≡ σ r) × SolvesPairs σ qs) × ((σ v ≡ σ r) × SolvesPairs σ qs → SolvesPairs σ ps)) → OccursBefore s ps ((v, r) ∷ qs) → DiffersBy s a b v r
differs-parts s a b v r ps qs c binding h before = record {
  binding = binding;
  forces = λ σ k q. ((h σ k).0 (c.down σ k (q, tt))).0;
  occurs = occurs-first s v a b (c.occurs v (before v (inl (inl here))));
}
