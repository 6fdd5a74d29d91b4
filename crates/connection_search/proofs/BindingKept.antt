-- Where all bound cells that occur in a goal are still bound in an older store, these cells are the same there: a goal that cannot be
-- closed could not be closed then.
use Rattle.std.proofs.Common.{◌≡◌, ◌⊎◌, ◌<◌, ◌≤◌, ℕ, zero, suc, List, [], ◌∷◌, ◌&&◌, length, take, Bool, true, false, IsTrue, refl, sym, ◌∙◌, ap, subst, Some, None, slice_get, inl, inr, arith, ltb-true, nat_lt}
use Rattle.std.specs.List.{AllByRecursion, list_all}
use Rattle.std.proofs.lemmas.Bool.{and_parts}
use Rattle.plain_laws.proofs.Every.{all-at}
use Rattle.plain_laws.proofs.Places.{take-length}
use Rattle.calculus.specs.declared.sort.Sort.{Sort}
use Rattle.calculus.specs.Choices.{Choice}
use Rattle.calculus.specs.Syntax.{Problem}
use Rattle.store_theory.specs.Stores.{Cell, IsGood, OccursIn, Store, TrailMark, cells_bound_by, cut_at, eigen_cell, fun_cell, here, in_part, is_bound, names_below, new_cell, parts_of, string_cell, variable}
use Rattle.store_theory.specs.Systems.{CellAtom, System}
use Rattle.store_theory.proofs.StoreLaws.{length-bound}
use Rattle.search_theory.specs.Exploring.{IsIn}
use Rattle.search_theory.specs.Jumps.{AreKept, IsSolvedBehind}
use Rattle.search_theory.specs.States.{CellChoice, CellGoal, CellGrowth, State, atom_is_below, goal_is_below}
use Rattle.search_theory.specs.CellsIn.{IsAtomIn, IsGoalIn}
use Rattle.search_theory.proofs.JumpLaws.{cannot-transplant}
use Rattle.search_theory.specs.Closing.{CannotClose}
use Rattle.search_theory.proofs.RankLaws.{rank_of}
use Rattle.search_theory.proofs.RegularLaws.{each-at}
use Rattle.search_theory.proofs.TransplantLaws.{IsAtomOf, IsGoalOf, MayTransplant, cut-is, cut-unbound, cut_cell, transplant, some-cell}
use Rattle.search_tree.specs.Binding.{AreBound, ListsBound, OccursInAtom, OccursInGoal}
use Rattle.search_tree.specs.OwnStores.{AreOwn}
use Rattle.search_tree.specs.Running.{IsRunning}
use Rattle.search_tree.proofs.DistinctStores.{well-ranked}

-- ---- what occurs

occurs-part : (s : Store) (v k i r : ℕ) (c : Cell) → OccursIn s v r → slice_get s.cells v ≡ Some c → slice_get (parts_of c) i ≡ Some k → OccursIn s k r
occurs-part s v k i r c here e p = in_part i e p here
occurs-part s v k i r c (in_part j f q o) e p = in_part j f q (occurs-part s v k i _ c o e p)

atom-part : (s : Store) (a : CellAtom) (v k i : ℕ) (c : Cell) → OccursInAtom s a v → slice_get s.cells v ≡ Some c → slice_get (parts_of c) i ≡ Some k → OccursInAtom s a k
atom-part s a v k i c (r, root, o) e p = (r, root, occurs-part s v k i r c o e p)

goal-part : (s : Store) (g : CellGoal) (v k i : ℕ) (c : Cell) → OccursInGoal s g v → slice_get s.cells v ≡ Some c → slice_get (parts_of c) i ≡ Some k → OccursInGoal s g k
goal-part s g v k i c (inl h) e p = inl (atom-part s g.literal v k i c h e p)
goal-part s g v k i c (inr (j, a, on, h)) e p = inr (j, a, on, atom-part s a v k i c h e p)

-- ---- the same cells in the cut

cut-length : (m : TrailMark) (s : Store) → IsGood m s → length (cut_at m s).cells ≡ m.cells
cut-length m s h = length-bound (take m.entries s.trail) 0 (take m.cells s.cells) ∙ take-length m.cells s.cells h.cells

-- a cell of the store whose binding, if it has one, is in the cut too
cell-same : (b : Bool) (c d : Cell) → c ≡ cut_cell b d → ((k : ℕ) (sort : Sort) → d ≡ variable sort (Some k) → is_bound c ≡ true) → c ≡ d
cell-same true c (variable sort o) e h = e
cell-same false c (variable sort None) e h = e
cell-same false c (variable sort (Some k)) e h = let z : false ≡ true = sym (ap is_bound e) ∙ h k sort refl in cc z
cell-same b c (fun_cell f rs) e h = e
cell-same b c (eigen_cell f rs) e h = e
cell-same b c (new_cell f rs) e h = e
cell-same b c (string_cell rs) e h = e

module _ (m : TrailMark) (s : Store) (g : CellGoal) (bound : List ℕ) (good : IsGood m s) (lists : ListsBound s g bound) (still : AreBound (cut_at m s) bound) where
  same-at : (r : ℕ) (d : Cell) → OccursInGoal s g r → r < m.cells → slice_get s.cells r ≡ Some d → slice_get (cut_at m s).cells r ≡ Some d
  same-at r d o l e =
      let n = cut-length m s good in
      let (c, f) = some-cell (cut_at m s).cells r (omega (arith, l, n)) in
      let (b, q) = cut-is m s r c d f e in
      let same = cell-same b c d q (λ k sort is.
      (let (x, j, at) = still r (lists r k sort o (e ∙ ap Some is)) in
      let z : c ≡ variable x (Some j) = let w : Some c ≡ Some (variable x (Some j)) = sym f ∙ at in cc w in
      ap is_bound z)) in
      f ∙ ap Some same

  part-within : (r k i : ℕ) (d : Cell) → slice_get (cut_at m s).cells r ≡ Some d → slice_get (parts_of d) i ≡ Some k → k < m.cells
  part-within r k i d e p =
      let cells = (and_parts (list_all (λ c. names_below m.cells (parts_of c)) (cut_at m s).cells) (names_below m.cells (cut_at m s).trail) good.closed).0 in
      ltb-true k m.cells (all-at (λ x. nat_lt x m.cells) (parts_of d) i k (all-at (λ c. names_below m.cells (parts_of c)) (cut_at m s).cells r d cells e) p)

  within : (v r : ℕ) → OccursInGoal s g r → r < m.cells → OccursIn s v r → v < m.cells
  within v r o l here = l
  within v r o l (in_part i {k = k} {c = c} e p rest) = within v k (goal-part s g r k i c o e p) (part-within r k i c (same-at r c o l e) p) rest

  root-below : (n v : ℕ) (a : CellAtom) → IsTrue (atom_is_below n a) → (h : OccursInAtom s a v) → h.0 < n
  root-below n v a l (r, inl (i, at), o) = let p = and_parts (names_below n a.args) (names_below n a.label) l in ltb-true r n (all-at (λ x. nat_lt x n) a.args i r p.0 at)
  root-below n v a l (r, inr (i, at), o) = let p = and_parts (names_below n a.args) (names_below n a.label) l in ltb-true r n (all-at (λ x. nat_lt x n) a.label i r p.1 at)

  atom-within : (v : ℕ) (a : CellAtom) → ((r : ℕ) → OccursInAtom s a r → OccursInGoal s g r) → IsTrue (atom_is_below m.cells a) → OccursInAtom s a v → v < m.cells
  atom-within v a into l (r, root, o) = within v r (into r (r, root, here)) (root-below m.cells v a l (r, root, o)) o

  occurs-within : (v : ℕ) → IsTrue (goal_is_below m.cells g) → OccursInGoal s g v → v < m.cells
  occurs-within v l (inl h) = atom-within v g.literal (λ r k. inl k) (and_parts (atom_is_below m.cells g.literal) (list_all (atom_is_below m.cells) g.path) l).0 h
  occurs-within v l (inr (i, a, on, h)) = atom-within v a (λ r k. inr (i, a, on, k)) (all-at (atom_is_below m.cells) g.path i a (and_parts (atom_is_below m.cells g.literal) (list_all (atom_is_below m.cells) g.path) l).1 on) h

  -- what occurs in the goal is the same
  pub kept-cells : IsTrue (goal_is_below m.cells g) → AreKept (OccursInGoal s g) (cut_at m s) s
  kept-cells l = record {
    same = λ r o.
        let w = occurs-within r l o in
        let c = good.cells in
        let (d, e) = some-cell s.cells r (omega (arith, w, c)) in
        (d, e, same-at r d o w e);
    parts = λ r k i c o e p. goal-part s g r k i c o e p;
  }

-- ---- the search's own cells

pub own-occurs : (P : Problem) (base : ℕ) (s : Store) (v r : ℕ) → AreOwn P base s → base ≤ r → OccursIn s v r → base ≤ v
own-occurs P base s v r own l here = l
own-occurs P base s v r own l (in_part i {k = k} {c = c} e p o) = own-occurs P base s v k own (own.labelled.names r k i c l e p) o

own-atom : (P : Problem) (base : ℕ) (s : Store) (v : ℕ) (a : CellAtom) → AreOwn P base s → IsAtomIn (λ r. base ≤ r) s a → OccursInAtom s a v → base ≤ v
own-atom P base s v a own h (r, inl (i, at), o) = own-occurs P base s v r own (h.args r (i, at)) o
own-atom P base s v a own h (r, inr (i, at), o) = own-occurs P base s v r own (h.label r (i, at)) o

own-goal : (P : Problem) (base : ℕ) (s : Store) (v : ℕ) (g : CellGoal) → AreOwn P base s → IsGoalIn (λ r. base ≤ r) s g → OccursInGoal s g v → base ≤ v
own-goal P base s v g own h (inl k) = own-atom P base s v g.literal own h.literal k
own-goal P base s v g own h (inr (i, a, on, k)) = own-atom P base s v a own (each-at (IsAtomIn (λ r. base ≤ r) s) g.path i a h.path on) k

goal-of_cells : (s : Store) (g : CellGoal) → IsGoalOf (OccursInGoal s g) g
goal-of_cells s g = record { literal = record { args = λ k p. inl (k, inl p, here); label = λ k p. inl (k, inr p, here) }; path = all-by g.path (λ i a on. record { args = λ k p. inr (i, a, on, (k, inl p, here)); label = λ k p. inr (i, a, on, (k, inr p, here)) }) }
  where
    all-by : (xs : List CellAtom) → ((i : ℕ) (a : CellAtom) → slice_get xs i ≡ Some a → IsAtomOf (OccursInGoal s g) a) → AllByRecursion (IsAtomOf (OccursInGoal s g)) xs
    all-by [] h = tt
    all-by (x ∷ xs) h = (h zero x refl, all-by xs (λ i a e. h (suc i) a e))

-- a goal whose lists are all tried, at an earlier point whose store still binds what occurs in it
pub cannot-back : (P : Problem) (base d : ℕ) (p q : List Choice) (S : State) (y z : System) (cs : List CellChoice) (x : CellGrowth) (m : TrailMark) (g : CellGoal) (gs : List CellGoal) (j : ℕ) (bound : List ℕ) → IsRunning P base d p S y → S.growth.open_goals ≡ g ∷ gs → IsSolvedBehind P d p [] → IsGood m S.store → ListsBound S.store g bound → AreBound (cut_at m S.store) bound → IsRunning P base d q (record { store = cut_at m S.store; choices = cs; growth = x }) z → slice_get x.all_goals j ≡ Some g → CannotClose P d (record { store = cut_at m S.store; choices = cs; growth = x }) g
cannot-back P base d p q S y z cs x m g gs j bound h opened none good lists still k at =
    let n = cut-length m S.store good in
    let below = subst (λ w. IsTrue (goal_is_below w g)) n (all-at (goal_is_below (length (cut_at m S.store).cells)) x.all_goals j g k.state.cells.all_goals at) in
    let goal_in = (subst (AllByRecursion (IsGoalIn (λ r. base ≤ r) S.store)) opened h.open_goals).0 in
    cannot-transplant P d p (record { store = cut_at m S.store; choices = cs; growth = x }) S g gs (OccursInGoal S.store g) h.state opened none (goal-of_cells S.store g)
    (transplant P base (record { store = cut_at m S.store; choices = cs; growth = x }) S (OccursInGoal S.store g) (rank_of S.store) (suc (length S.store.cells)) (record {
      store = h.well.fits;
      ranked = well-ranked S.store h.well;
      labelled = h.own.labelled;
      choices = h.choices;
      older = k.choices;
      variables = k.variables;
      unbound = cut-unbound m S.store;
      kept = kept-cells m S.store g bound good lists still below;
      own = λ r o. own-goal P base S.store r g h.own goal_in o;
    }))
