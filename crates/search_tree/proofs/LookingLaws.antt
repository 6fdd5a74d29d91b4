-- What a look at a goal finds: the bound cells that occur in it, cell by cell.
use Rattle.std.proofs.Common.{◌≡◌, ◌⊎◌, ◌+◌, ◌<◌, ◌≤◌, ℕ, zero, suc, true, false, List, [], ◌∷◌, ◌++◌, length, map, take, IsTrue, refl, sym, ◌∙◌, ap, subst, Option, None, Some, option_map, slice_get, inl, inr, arith, ltb-true, nat_lt, ◌≢◌, append_assoc}
use Rattle.std.proofs.lemmas.Bool.{and_parts, false≢true}
use Rattle.std.proofs.lemmas.List.{map-append}
use Rattle.std.proofs.lemmas.Option.{slice_get-map, slice_get_within}
use Rattle.plain_laws.proofs.Every.{all-at}
use Rattle.plain_laws.proofs.Places.{get-front}
use Rattle.plain_laws.proofs.Options.{same-some}
use Rattle.calculus.specs.declared.sort.Sort.{Sort}
use Rattle.search_theory.specs.Exploring.{IsIn}
use Rattle.search_theory.specs.States.{CellGoal, atom_is_below, goal_is_below}
use Rattle.store_theory.specs.Bindings.{EndsIn, IsEnd, IsWellFormed}
use Rattle.store_theory.specs.Stores.{Cell, EndsAt, OccursIn, Store, here, in_part, is_bound, names_below, parts_of, variable}
use Rattle.store_theory.specs.Systems.{CellAtom}
use Rattle.store_theory.proofs.BindingLaws.{ends-once, kept, parts-within}
use Rattle.term_store.specs.RefView.{the_place}
use Rattle.term_store.specs.declared.cell.Ref.{Ref}
use Rattle.search_tree.specs.Binding.{AreBound, ListsBound, OccursInGoal}
use Rattle.search_tree.specs.Looking.{AreAmong, AreBelow, FindsAll, GoesOn, IsFound, IsGathered, atom_cells}
use Rattle.search_tree.specs.Trees.{IsGoalAt, atom_at}
use Rattle.search_tree.specs.declared.tree.Goal.{Goal}
use Rattle.search_tree.specs.declared.tree.Step.{Step}
use Rattle.search_tree.proofs.Places.{take-next}
use Rattle.search_tree.proofs.SeenLaws.{ancestor-below, goal-below}
use Rattle.search_tree.proofs.TreeLaws.{atom-found}
use Rattle.search_tree.proofs.WayUpLaws.{IsUpTo, up-all, up-ancestor, up-first, up-next, up-none}

-- ---- lists

pub in-front : (xs ys : List ℕ) (r : ℕ) → IsIn r xs → IsIn r (xs ++ ys)
in-front xs ys r (i, e) = (i, get-front xs ys i r e)

pub in-back : (xs ys : List ℕ) (r : ℕ) → IsIn r ys → IsIn r (xs ++ ys)
in-back [] ys r h = h
in-back (x ∷ xs) ys r h = let w = in-back xs ys r h in (suc w.0, w.1)

pub in-either : (xs ys : List ℕ) (r : ℕ) → IsIn r (xs ++ ys) → IsIn r xs ⊎ IsIn r ys
in-either [] ys r h = inr h
in-either (x ∷ xs) ys r (zero, e) = inl (zero, e)
in-either (x ∷ xs) ys r (suc i, e) = elim (in-either xs ys r (i, e)) [
  | inl k ↦ inl (suc k.0, k.1)
  | inr k ↦ inr k
]

in-one : (x r : ℕ) → IsIn r (x ∷ []) → r ≡ x
in-one x r (zero, e) = let z : Some x ≡ Some r = e in cc z
in-one x r (suc i, e) = let z : None ≡ Some r = e in absurd (cc z)

-- ---- a cell is visited

occurs-split : (s : Store) (v r : ℕ) (c : Cell) → slice_get s.cells r ≡ Some c → OccursIn s v r → (v ≡ r) ⊎ ((j : ℕ) × IsIn j (parts_of c) × OccursIn s v j)
occurs-split s v r c at here = inl refl
occurs-split s v r c at (in_part i {k = j} {c = d} e p o) = inr (j, (i, subst (λ x. slice_get (parts_of x) i ≡ Some j) (same-some (slice_get s.cells r) d c e at) p), o)

-- its parts are to be visited, and it is found where it is bound
visits : (s : Store) (bound after waiting : List ℕ) (r : ℕ) (c : Cell) → IsWellFormed s → slice_get s.cells r ≡ Some c → AreAmong bound after → (is_bound c ≡ true → IsIn r after) → GoesOn s bound (waiting ++ r ∷ []) after (waiting ++ parts_of c)
visits s bound after waiting r c well at old new = record {
  found = λ v k sort there h. elim h [
    | inl on ↦ inl (old v on)
    | inr (q, on, o) ↦ elim (in-either waiting (r ∷ []) q on) [
      | inl waits ↦ inr (q, in-front waiting (parts_of c) q waits, o)
      | inr one ↦ by v k sort there (occurs-split s v r c at (subst (OccursIn s v) (in-one r q one) o))
    ]
  ];
  below = λ h q on. elim (in-either waiting (parts_of c) q on) [
    | inl waits ↦ h q (in-front waiting (r ∷ []) q waits)
    | inr (i, part) ↦ parts-within s c i q ((kept s well.fits).fits r c at) part
  ];
}
  where
    by : (v k : ℕ) (sort : Sort) → slice_get s.cells v ≡ Some (variable sort (Some k)) → (v ≡ r) ⊎ ((j : ℕ) × IsIn j (parts_of c) × OccursIn s v j) → IsFound s after (waiting ++ parts_of c) v
    by v k sort there (inl e) =
        let is : variable sort (Some k) ≡ c = same-some (slice_get s.cells r) (variable sort (Some k)) c (subst (λ n. slice_get s.cells n ≡ Some (variable sort (Some k))) e there) at in
        inl (subst (λ n. IsIn n after) (sym e) (new (sym (ap is_bound is))))
    by v k sort there (inr (j, part, o)) = inr (j, in-back waiting (parts_of c) j part, o)

pub visits-bound : (s : Store) (bound after waiting waiting_after : List ℕ) (r k : ℕ) (sort : Sort) → IsWellFormed s → slice_get s.cells r ≡ Some (variable sort (Some k)) → after ≡ bound ++ r ∷ [] → waiting_after ≡ waiting ++ k ∷ [] → GoesOn s bound (waiting ++ r ∷ []) after waiting_after
visits-bound s bound after waiting waiting_after r k sort well at eb ew =
    rw (eb, ew) (visits s bound (bound ++ r ∷ []) waiting r (variable sort (Some k)) well at (λ q on. in-front bound (r ∷ []) q on) (λ e. in-back bound (r ∷ []) r (zero, refl)))

pub visits-parts : (s : Store) (bound after waiting waiting_after : List ℕ) (r : ℕ) → IsWellFormed s → IsEnd s r → after ≡ bound → EndsIn s r (λ c. waiting_after ≡ waiting ++ parts_of c) → GoesOn s bound (waiting ++ r ∷ []) after waiting_after
visits-parts s bound after waiting waiting_after r well (d, f, u) eb (w, c, ends, at, ew) =
    let same : r ≡ w = ends-once s r r w (EndsAt.stays f u) ends in
    let there : slice_get s.cells r ≡ Some c = ap (slice_get s.cells) same ∙ at in
    let none : is_bound c ≡ false = subst (λ x. is_bound x ≡ false) (same-some (slice_get s.cells r) d c f there) u in
    rw (eb, ew) (visits s bound bound waiting r c well there (λ q on. on) (λ e. absurd (false≢true (sym none ∙ e))))

-- ---- all cells are visited

pub goes-next : (s : Store) (bound waiting bound_then waiting_then bound_after waiting_after : List ℕ) → GoesOn s bound waiting bound_then waiting_then → GoesOn s bound_then waiting_then bound_after waiting_after → GoesOn s bound waiting bound_after waiting_after
goes-next s bound waiting bound_then waiting_then bound_after waiting_after h k = record {
  found = λ v j sort there f. k.found v j sort there (h.found v j sort there f);
  below = λ l. k.below (h.below l);
}

-- the last one is taken from those that are to be visited
pub waiting-popped : (before after : List Ref) (r : Ref) → before ≡ after ++ r ∷ [] → map the_place before ≡ map the_place after ++ r.0 ∷ []
waiting-popped before after r e = ap (map the_place) e ∙ map-append the_place after (r ∷ [])

-- one part more is to be visited
pub parts-added : (before items now : List Ref) (parts : List ℕ) (i : ℕ) (r : Ref) → now ≡ items ++ r ∷ [] → slice_get parts i ≡ Some r.0 → map the_place items ≡ map the_place before ++ take i parts → map the_place now ≡ map the_place before ++ take (i + 1) parts
parts-added before items now parts i r e at h = waiting-popped now items r e ∙ ap (λ xs. xs ++ r.0 ∷ []) h ∙ append_assoc (map the_place before) (take i parts) (r.0 ∷ []) ∙ ap (λ xs. map the_place before ++ xs) (sym (take-next parts i r.0 at))

pub below-popped : (n : ℕ) (before after : List Ref) (r : Ref) → before ≡ after ++ r ∷ [] → AreBelow n (map the_place before) → r.0 < n
below-popped n before after r e h = h r.0 (subst (IsIn r.0) (sym (waiting-popped before after r e)) (in-back (map the_place after) (r.0 ∷ []) r.0 (zero, refl)))

pub goes-popped : (s : Store) (bound_first waiting_first bound bound_after waiting_after : List ℕ) (before after : List Ref) (r : Ref) → before ≡ after ++ r ∷ [] → GoesOn s bound_first waiting_first bound (map the_place before) → GoesOn s bound (map the_place after ++ r.0 ∷ []) bound_after waiting_after → GoesOn s bound_first waiting_first bound_after waiting_after
goes-popped s bound_first waiting_first bound bound_after waiting_after before after r e h k =
    goes-next s bound_first waiting_first bound (map the_place after ++ r.0 ∷ []) bound_after waiting_after (subst (GoesOn s bound_first waiting_first bound) (waiting-popped before after r e) h) k

-- ---- the cells of a goal

pub among-came : (a b : CellAtom) (before after : List ℕ) → after ≡ before ++ atom_cells a → b ≡ a → AreAmong (atom_cells b) after
among-came a b before after e same = λ r on. subst (IsIn r) (sym e) (in-back before (atom_cells a) r (subst (λ z. IsIn r (atom_cells z)) same on))

pub among-more : (a b : CellAtom) (before after : List ℕ) → after ≡ before ++ atom_cells a → AreAmong (atom_cells b) before → AreAmong (atom_cells b) after
among-more a b before after e h = λ r on. subst (IsIn r) (sym e) (in-front before (atom_cells a) r (h r on))

atom-below : (n : ℕ) (a : CellAtom) → IsTrue (atom_is_below n a) → AreBelow n (atom_cells a)
atom-below n a l = λ r on.
    let p = and_parts (names_below n a.args) (names_below n a.label) l in
    elim (in-either a.args a.label r on) [
      | inl (i, e) ↦ ltb-true r n (all-at (λ x. nat_lt x n) a.args i r p.0 e)
      | inr (i, e) ↦ ltb-true r n (all-at (λ x. nat_lt x n) a.label i r p.1 e)
    ]

pub below-came : (n : ℕ) (a : CellAtom) (before after : List ℕ) → after ≡ before ++ atom_cells a → IsTrue (atom_is_below n a) → AreBelow n before → AreBelow n after
below-came n a before after e l h = λ r on. elim (in-either before (atom_cells a) r (subst (IsIn r) e on)) [
  | inl old ↦ h r old
  | inr new ↦ atom-below n a l r new
]

-- ---- the way up from a goal

abbrev pub AreWaiting : List ℕ → CellGoal → CellAtom → Type 0
AreWaiting waiting x a = AreAmong (atom_cells a) waiting

-- the cells of the goal of this number and of the first i above it came
pub record GathersTo (before after : List ℕ) (steps : List Step) (goals : List Goal) (goal : ℕ) (above : Option ℕ) (i : ℕ) : Type 0 where
  pub up : IsUpTo (AreWaiting after) steps goals goal above i
  pub own : (x : CellGoal) → IsGoalAt steps goals goal x → AreAmong (atom_cells x.literal) after
  pub below : (n : ℕ) (x : CellGoal) → IsGoalAt steps goals goal x → IsTrue (goal_is_below n x) → AreBelow n before → AreBelow n after

pub gathers-first : (before after : List ℕ) (steps : List Step) (goals : List Goal) (goal : ℕ) (at : Goal) (a : CellAtom) → slice_get goals goal ≡ Some at → ((g : Goal) → slice_get goals goal ≡ Some g → atom_at steps g ≡ Some a) → after ≡ before ++ atom_cells a → GathersTo before after steps goals goal at.above 0
gathers-first before after steps goals goal at a e fa is = record {
  up = up-first (AreWaiting after) steps goals goal at e;
  own = λ x g. among-came a x.literal before after is (sym (atom-found steps goals goal x a g fa));
  below = λ n x g l h. below-came n a before after is (goal-below n steps goals goal x a g l fa) h;
}

pub gathers-next : (before middle after : List ℕ) (steps : List Step) (goals : List Goal) (goal : ℕ) (above : Option ℕ) (j i : ℕ) (next : Goal) (b : CellAtom) → GathersTo before middle steps goals goal above i → above ≡ Some j → slice_get goals j ≡ Some next → ((g : Goal) → slice_get goals j ≡ Some g → atom_at steps g ≡ Some b) → after ≡ middle ++ atom_cells b → GathersTo before after steps goals goal next.above (i + 1)
gathers-next before middle after steps goals goal above j i next b h e at fb is = record {
  up = up-next (AreWaiting after) (AreWaiting middle) steps goals goal above j i next b h.up e at fb (λ x g. among-came b b middle after is refl) (λ x a k. among-more b a middle after is k);
  own = λ x g. among-more b x.literal middle after is (h.own x g);
  below = λ n x g l k.
      let w = up-ancestor (AreWaiting middle) steps goals goal above j i x h.up e g in
      below-came n b middle after is (ancestor-below n steps goals x j i b w l fb) (h.below n x g l k);
}

pub gathers-none : (before after : List ℕ) (steps : List Step) (goals : List Goal) (goal : ℕ) (above : Option ℕ) (i : ℕ) → GathersTo before after steps goals goal above i → above ≡ None → (x : CellGoal) → IsGoalAt steps goals goal x → IsGathered x before after
gathers-none before after steps goals goal above i h e x g = record {
  literal = h.own x g;
  path = λ k a on. up-none (AreWaiting after) steps goals goal above i h.up e x g k a on;
  below = λ n l k. h.below n x g l k;
}

pub gathers-all : (before after : List ℕ) (steps : List Step) (goals : List Goal) (goal : ℕ) (above : Option ℕ) (i : ℕ) (at : Goal) → GathersTo before after steps goals goal above i → slice_get goals goal ≡ Some at → at.depth ≤ i → (x : CellGoal) → IsGoalAt steps goals goal x → IsGathered x before after
gathers-all before after steps goals goal above i at h e l x g = record {
  literal = h.own x g;
  path = λ k a on. up-all (AreWaiting after) steps goals goal above i at h.up e l x g k a on;
  below = λ n m k. h.below n x g m k;
}

-- ---- the bound cells of the goal

-- all that occurs in the goal occurs in a cell that was to be visited
occurs-waiting : (s : Store) (x : CellGoal) (bound before waiting : List ℕ) (v : ℕ) → IsGathered x before waiting → OccursInGoal s x v → IsFound s bound waiting v
occurs-waiting s x bound before waiting v h (inl (r, root, o)) = inr (r, h.literal r (root-in x.literal r root), o)
  where
    root-in : (a : CellAtom) (r : ℕ) → IsIn r a.args ⊎ IsIn r a.label → IsIn r (atom_cells a)
    root-in a r (inl on) = in-front a.args a.label r on
    root-in a r (inr on) = in-back a.args a.label r on
occurs-waiting s x bound before waiting v h (inr (i, a, on, (r, root, o))) = inr (r, h.path i a on r (root-in a r root), o)
  where
    root-in : (a : CellAtom) (r : ℕ) → IsIn r a.args ⊎ IsIn r a.label → IsIn r (atom_cells a)
    root-in a r (inl on) = in-front a.args a.label r on
    root-in a r (inr on) = in-back a.args a.label r on

pub lists-bound : (s : Store) (x : CellGoal) (bound before waiting after : List ℕ) → IsGathered x before waiting → FindsAll s bound waiting after → ListsBound s x after
lists-bound s x bound before waiting after h finds = λ v k sort o at. finds v k sort at (occurs-waiting s x bound before waiting v h o)

pub below-nothing : (n : ℕ) (rs : List ℕ) → rs ≡ [] → AreBelow n rs
below-nothing n rs e = λ r on. absurd (by (subst (IsIn r) e on))
  where
    by : {r : ℕ} → IsIn r [] → ⊥
    by {r} (i, at) = let z : None ≡ Some r = at in cc z

-- ---- which of them are bound

abbrev pub IsBoundAt : Store → ℕ → Type 0
IsBoundAt s v = (sort : Sort) × (k : ℕ) × (slice_get s.cells v ≡ Some (variable sort (Some k)))

-- the first i of them are
abbrev pub AreBoundTo : Store → List Ref → ℕ → Type 0
AreBoundTo s bound i = (j : ℕ) (r : Ref) → j < i → slice_get bound j ≡ Some r → IsBoundAt s r.0

pub bound-all : (s : Store) (bound : List Ref) (i : ℕ) → AreBoundTo s bound i → length bound ≤ i → AreBound s (map the_place bound)
bound-all s bound i h l = λ v on. by v on.0 (slice_get bound on.0) refl (sym (slice_get-map the_place bound on.0) ∙ on.1)
  where
    by : (v j : ℕ) (o : Option Ref) → slice_get bound j ≡ o → option_map the_place o ≡ Some v → IsBoundAt s v
    by v j None e f = let z : None ≡ Some v = f in absurd (cc z)
    by v j (Some r) e f =
        let same : r.0 ≡ v = let z : Some r.0 ≡ Some v = f in cc z in
        let inside = slice_get_within bound j r e in
        subst (IsBoundAt s) same (h j r (omega (arith, inside, l)) e)
