-- What the calls of a store do to what is kept of its lists, and what they tell.
use Rattle.std.proofs.Common.{◌≡◌, ◌≤◌, ◌<◌, ◌+◌, ◌++◌, ◌∷◌, [], Some, IsTrue, length, ℕ, zero, suc, List, Bool, true, false, map, take, drop, refl, sym, ap, ap₂, ◌∙◌, subst, arith, if◌then◌else◌, slice_index_or, option_map, ◌&&◌}
use Rattle.std.specs.Prelude.{slice_get}
use Rattle.std.specs.List.{list_all}
use Rattle.std.proofs.lemmas.Bool.{false≢true, and_parts}
use Rattle.std.proofs.lemmas.List.{length-take-le}
use Rattle.std.proofs.lemmas.Option.{slice_get-map}
use Rattle.term_store.proofs.WellLaws.{laid-within}
use Rattle.calculus.specs.declared.sort.Sort.{Sort}
use Rattle.calculus.specs.Equality.{contains}
use Rattle.store_theory.specs.Stores.{Cell, variable, fun_cell, eigen_cell, new_cell, string_cell, Store, TrailMark, is_store, is_bound, cells_bound_by, cut_at, IsGood, parts_of, parts_fit, bound_cells, trail_fits, are_distinct_cells, EndsAt, stays}
use Rattle.store_theory.specs.Bindings.{bind_at, bound_to, with_binding, MayBind, IsWellFormed, HasRank, IsEnd, EndsIn}
use Rattle.store_theory.proofs.BindingLaws.{is_store-with_binding, HasRank-with_binding, IsWellFormed-cut_at, kept, parts-within, ends-once, ends-there}
use Rattle.term_store.specs.declared.cell.Ref.{Ref}
use Rattle.term_store.specs.declared.cell.Content.{Content}
use Rattle.term_store.specs.declared.cell.Content.TheVariants.{Open, Bound, Fun, Eigen, New, Marks}
use Rattle.term_store.specs.declared.cell.Slot.{Slot}
use Rattle.term_store.specs.Slots.{bound_content, open_content, change_at, slots_bound_by}
use Rattle.term_store.specs.Shown.{Shows, ShowsCell, head_of, the_head}
use Rattle.term_store.specs.StoreView.{the_cell, the_cell_at, the_store, part_count, IsLaid, IsWell}
use Rattle.term_store.proofs.SlotLaws.{laid-change_at, length-change_at, count-bound, count-open}

pub sound : (slots : List Slot) (parts trail : List ℕ) → IsWell slots parts trail → IsWellFormed (the_store slots parts trail)
sound slots parts trail w = record { fits = w.fits; rank = w.rank }

-- ---- a binding

cell-bound : (parts : List ℕ) (start : ℕ) (to : Ref) (c : Content) → the_cell_at parts start (bound_content to c) ≡ bound_to to.0 (the_cell_at parts start c)
cell-bound parts start to (Open sort) = refl
cell-bound parts start to (Bound sort r) = refl
cell-bound parts start to (Fun f n) = refl
cell-bound parts start to (Eigen p n) = refl
cell-bound parts start to (New p n) = refl
cell-bound parts start to (Marks n) = refl

cells-bound : (parts : List ℕ) (to : Ref) (v : ℕ) (slots : List Slot) → map (the_cell parts) (change_at (bound_content to) v slots) ≡ bind_at v to.0 (map (the_cell parts) slots)
cells-bound parts to zero [] = refl
cells-bound parts to (suc v) [] = refl
cells-bound parts to zero (s ∷ slots) = ap (λ c. c ∷ map (the_cell parts) slots) (cell-bound parts s.start to s.content)
cells-bound parts to (suc v) (s ∷ slots) = ap (λ cs. the_cell parts s ∷ cs) (cells-bound parts to v slots)

pub bound-store : (slots : List Slot) (parts trail : List ℕ) (v : ℕ) (to : Ref) → the_store (change_at (bound_content to) v slots) parts (trail ++ v ∷ []) ≡ with_binding v to.0 (the_store slots parts trail)
bound-store slots parts trail v to = ap (λ cs. let r : Store = record { cells = cs; trail = trail ++ v ∷ [] } in r) (cells-bound parts to v slots)

pub well-bound : (slots : List Slot) (parts trail : List ℕ) (v : ℕ) (to : Ref) → IsWell slots parts trail → MayBind (the_store slots parts trail) v to.0 → IsWell (change_at (bound_content to) v slots) parts (trail ++ v ∷ [])
well-bound slots parts trail v to w m = record {
  laid = laid-change_at (bound_content to) (count-bound to) v 0 slots (length parts) w.laid;
  fits = subst (λ s. IsTrue (is_store s)) (sym (bound-store slots parts trail v to)) (is_store-with_binding v to.0 (the_store slots parts trail) w.fits m);
  rank = subst HasRank (sym (bound-store slots parts trail v to)) (HasRank-with_binding v to.0 (the_store slots parts trail) m w.rank);
  places = let a = w.places in let e = length-change_at (bound_content to) v slots in omega arith;
  part_places = w.part_places;
}

-- ---- a cut

cell-unbound : (parts : List ℕ) (start n : ℕ) (t : List ℕ) (c : Content) (cs : List Cell) → the_cell_at parts start (if contains t n then c else open_content c) ∷ cells_bound_by t (suc n) cs ≡ cells_bound_by t n (the_cell_at parts start c ∷ cs)
cell-unbound parts start n t c cs = by c (contains t n) refl
  where
    by : (c : Content) (b : Bool) → contains t n ≡ b → the_cell_at parts start (if contains t n then c else open_content c) ∷ cells_bound_by t (suc n) cs ≡ cells_bound_by t n (the_cell_at parts start c ∷ cs)
    by (Open sort) true e = rw e refl
    by (Open sort) false e = rw e refl
    by (Bound sort r) true e = rw e refl
    by (Bound sort r) false e = rw e refl
    by (Fun f k) true e = rw e refl
    by (Fun f k) false e = rw e refl
    by (Eigen p k) true e = rw e refl
    by (Eigen p k) false e = rw e refl
    by (New p k) true e = rw e refl
    by (New p k) false e = rw e refl
    by (Marks k) true e = rw e refl
    by (Marks k) false e = rw e refl

-- the cells that are kept, with the bindings that are kept
cells-cut : (parts : List ℕ) (t : List ℕ) (n k : ℕ) (slots : List Slot) → map (the_cell parts) (take k (slots_bound_by t n slots)) ≡ cells_bound_by t n (take k (map (the_cell parts) slots))
cells-cut parts t n zero slots = refl
cells-cut parts t n (suc k) [] = refl
cells-cut parts t n (suc k) (s ∷ slots) = ap (λ cs. the_cell_at parts s.start (if contains t n then s.content else open_content s.content) ∷ cs) (cells-cut parts t (suc n) k slots) ∙ cell-unbound parts s.start n t s.content (take k (map (the_cell parts) slots))

pub laid-unbound : (t : List ℕ) (n start : ℕ) (slots : List Slot) (end : ℕ) → IsLaid start slots end → IsLaid start (slots_bound_by t n slots) end
laid-unbound t n start [] end l = l
laid-unbound t n start (s ∷ slots) end l = (l.0, subst (λ m. IsLaid (start + m) (slots_bound_by t (suc n) slots) end) (by (contains t n)) (laid-unbound t (suc n) (start + part_count s.content) slots end l.1))
  where
    by : (b : Bool) → part_count s.content ≡ part_count (if b then s.content else open_content s.content)
    by true = refl
    by false = sym (count-open s.content)

-- the parts of the first cells end where those of the next cell begin
pub laid-cut : (k start : ℕ) (slots : List Slot) (end : ℕ) (d : Slot) → IsLaid start slots end → slice_get slots k ≡ Some d → IsLaid start (take k slots) d.start × (d.start ≤ end)
laid-cut k start [] end d l e = absurd (cc)
laid-cut zero start (s ∷ slots) end d l e =
    let same : s ≡ d = cc in
    let a : d.start ≡ start = ap (λ x. x.start) (sym same) ∙ l.0 in
    let b = laid-within (start + part_count s.content) slots end l.1 in
    (sym a, omega arith)
  where
    laid-within : (start : ℕ) (slots : List Slot) (end : ℕ) → IsLaid start slots end → start ≤ end
    laid-within start [] end h = let h' : start ≡ end = h in omega arith
    laid-within start (t ∷ slots) end h = let a = laid-within (start + part_count t.content) slots end h.1 in omega arith
laid-cut (suc k) start (s ∷ slots) end d l e = let w = laid-cut k (start + part_count s.content) slots end d l.1 e in ((l.0, w.0), w.1)

part-cut : (n start k : ℕ) (parts : List ℕ) → start + n ≤ k → take n (drop start (take k parts)) ≡ take n (drop start parts)
part-cut n start zero [] h = refl
part-cut n start (suc k) [] h = refl
part-cut zero zero zero (p ∷ parts) h = refl
part-cut (suc n) zero zero (p ∷ parts) h = absurd (omega arith)
part-cut n (suc start) zero (p ∷ parts) h = absurd (omega arith)
part-cut zero zero (suc k) (p ∷ parts) h = refl
part-cut (suc n) zero (suc k) (p ∷ parts) h = ap (λ qs. p ∷ qs) (part-cut n zero k parts (omega arith))
part-cut n (suc start) (suc k) (p ∷ parts) h = part-cut n start k parts (omega arith)

cell-cut : (c : Content) (start k : ℕ) (parts : List ℕ) → start + part_count c ≤ k → the_cell_at (take k parts) start c ≡ the_cell_at parts start c
cell-cut (Open sort) start k parts h = refl
cell-cut (Bound sort r) start k parts h = refl
cell-cut (Fun f n) start k parts h = ap (fun_cell f.0) (part-cut n start k parts h)
cell-cut (Eigen p n) start k parts h = ap (eigen_cell p.0) (part-cut n start k parts h)
cell-cut (New p n) start k parts h = ap (new_cell p.0) (part-cut n start k parts h)
cell-cut (Marks n) start k parts h = ap string_cell (part-cut n start k parts h)

pub cells-cut_parts : (start k : ℕ) (slots : List Slot) (parts : List ℕ) → IsLaid start slots k → map (the_cell (take k parts)) slots ≡ map (the_cell parts) slots
cells-cut_parts start k [] parts h = refl
cells-cut_parts start k (s ∷ slots) parts h =
    let l = laid-within (start + part_count s.content) slots k h.1 in
    let e = h.0 in
    ap₂ ◌∷◌ (cell-cut s.content s.start k parts (omega arith)) (cells-cut_parts (start + part_count s.content) k slots parts h.1)
  where
    laid-within : (start : ℕ) (slots : List Slot) (end : ℕ) → IsLaid start slots end → start ≤ end
    laid-within start [] end h = let h' : start ≡ end = h in omega arith
    laid-within start (t ∷ slots) end h = let a = laid-within (start + part_count t.content) slots end h.1 in omega arith

pub cut-store : (m : TrailMark) (slots kept : List Slot) (parts less trail t : List ℕ) → kept ≡ take m.cells (slots_bound_by (take m.entries trail) 0 slots) → map (the_cell less) kept ≡ map (the_cell parts) kept → t ≡ take m.entries trail → the_store kept less t ≡ cut_at m (the_store slots parts trail)
cut-store m slots kept parts less trail t e f g = ap₂ (λ cs t. let r : Store = record { cells = cs; trail = t } in r) (f ∙ ap (map (the_cell parts)) e ∙ cells-cut parts (take m.entries trail) 0 m.cells slots) g

pub well-cut : (m : TrailMark) (slots kept : List Slot) (parts less trail t : List ℕ) → IsWell slots parts trail → IsGood m (the_store slots parts trail) → kept ≡ take m.cells (slots_bound_by (take m.entries trail) 0 slots) → map (the_cell less) kept ≡ map (the_cell parts) kept → t ≡ take m.entries trail → IsLaid 0 kept (length less) → length kept ≤ length slots → length less ≤ length parts → IsWell kept less t
well-cut m slots kept parts less trail t w good e f g laid n k =
    let same = cut-store m slots kept parts less trail t e f g in
    let s = IsWellFormed-cut_at m (the_store slots parts trail) (sound slots parts trail w) good in
    record {
      laid = laid;
      fits = subst (λ s. IsTrue (is_store s)) (sym same) s.fits;
      rank = subst HasRank (sym same) s.rank;
      places = let a = w.places in omega arith;
      part_places = let a = w.part_places in omega arith;
    }

pub cut-laid : (slots : List Slot) (parts : List ℕ) (k : ℕ) (s : Slot) → IsLaid 0 slots (length parts) → slice_get slots k ≡ Some s → IsLaid 0 (take k slots) (length (take s.start parts))
cut-laid slots parts k s l e =
    let w = laid-cut k 0 slots (length parts) s l e in
    subst (IsLaid 0 (take k slots)) (sym (length-take-le s.start parts w.1)) w.0

pub cut-kept : (slots : List Slot) (parts : List ℕ) (k : ℕ) (s : Slot) → IsLaid 0 slots (length parts) → slice_get slots k ≡ Some s → map (the_cell (take s.start parts)) (take k slots) ≡ map (the_cell parts) (take k slots)
cut-kept slots parts k s l e = cells-cut_parts 0 s.start (take k slots) parts (laid-cut k 0 slots (length parts) s l e).0

-- ---- the trail does not know parts

bound-cells_parts : (parts : List ℕ) (n : ℕ) (slots : List Slot) → bound_cells n (map (the_cell parts) slots) ≡ bound_cells n (map (the_cell []) slots)
bound-cells_parts parts n [] = refl
bound-cells_parts parts n (s ∷ slots) = ap₂ (λ b ks. (if b then n ∷ [] else []) ++ ks) (by s.content) (bound-cells_parts parts (suc n) slots)
  where
    by : (c : Content) → is_bound (the_cell_at parts s.start c) ≡ is_bound (the_cell_at [] s.start c)
    by (Open sort) = refl
    by (Bound sort r) = refl
    by (Fun f k) = refl
    by (Eigen p k) = refl
    by (New p k) = refl
    by (Marks k) = refl

pub trail-alone : (slots : List Slot) (parts trail : List ℕ) → IsTrue (is_store (the_store slots parts trail)) → IsTrue (trail_fits (the_store slots [] trail))
trail-alone slots parts trail h =
    let a = and_parts (list_all (parts_fit (the_store slots parts trail)) (map (the_cell parts) slots)) (trail_fits (the_store slots parts trail)) h in
    subst (λ ks. IsTrue (are_distinct_cells trail && list_all (contains ks) trail && list_all (contains trail) ks)) (bound-cells_parts parts 0 slots) a.1

-- ---- what a cell shows

laid-at : (start : ℕ) (slots : List Slot) (end r : ℕ) (s : Slot) → IsLaid start slots end → slice_get slots r ≡ Some s → s.start + part_count s.content ≤ end
laid-at start [] end r s l e = absurd (cc)
laid-at start (t ∷ slots) end zero s l e =
    let same : t ≡ s = cc in
    let a = laid-within (start + part_count t.content) slots end l.1 in
    let b : s.start + part_count s.content ≡ start + part_count t.content = ap (λ x. x.start + part_count x.content) (sym same) ∙ ap (λ n. n + part_count t.content) l.0 in
    omega arith
laid-at start (t ∷ slots) end (suc r) s l e = laid-at (start + part_count t.content) slots end r s l.1 e

length-part : (n start : ℕ) (parts : List ℕ) → start + n ≤ length parts → length (take n (drop start parts)) ≡ n
length-part n (suc start) [] h = absurd (omega arith)
length-part n (suc start) (p ∷ parts) h = length-part n start parts (omega arith)
length-part zero zero parts h = refl
length-part (suc n) zero [] h = absurd (omega arith)
length-part (suc n) zero (p ∷ parts) h = let e = length-part n zero parts (omega arith) in ap suc e

pub shows-at : (slots : List Slot) (parts trail : List ℕ) (r : ℕ) (s : Slot) → IsWell slots parts trail → slice_get slots r ≡ Some s → Shows (the_store slots parts trail) r s.content
shows-at slots parts trail r s w at =
    let l = laid-at 0 slots (length parts) r s w.laid at in
    (the_cell parts s, slice_get-map (the_cell parts) slots r ∙ ap (option_map (the_cell parts)) at, by s.content l)
  where
    by : (c : Content) → s.start + part_count c ≤ length parts → ShowsCell c (the_cell_at parts s.start c)
    by (Open sort) l = refl
    by (Bound sort q) l = refl
    by (Fun f n) l = (take n (drop s.start parts), refl, length-part n s.start parts l)
    by (Eigen p n) l = (take n (drop s.start parts), refl, length-part n s.start parts l)
    by (New p n) l = (take n (drop s.start parts), refl, length-part n s.start parts l)
    by (Marks n) l = (take n (drop s.start parts), refl, length-part n s.start parts l)

part-get : (n start i : ℕ) (parts : List ℕ) → i < length (take n (drop start parts)) → (start + i < length parts) × ((p : ℕ) → p ≡ slice_index_or parts (start + i) p → slice_get (take n (drop start parts)) i ≡ Some p)
part-get n (suc start) i [] h = absurd (let e = none n in omega arith)
  where
    none : (n : ℕ) → length (take n (drop (suc start) (let z : List ℕ = [] in z))) ≡ 0
    none zero = refl
    none (suc n) = refl
part-get zero zero i parts h = absurd (omega arith)
part-get (suc n) zero i [] h = absurd (omega arith)
part-get n (suc start) i (p ∷ parts) h =
    let w = part-get n start i parts h in
    let same : suc start + i ≡ suc (start + i) = omega arith in
    (omega arith, λ q e. w.1 q (e ∙ ap (λ k. slice_index_or (p ∷ parts) k q) same))
part-get (suc n) zero zero (p ∷ parts) h = (omega arith, λ q e. ap Some (sym (e ∙ ap (λ k. slice_index_or (p ∷ parts) k q) (let same : 0 + 0 ≡ 0 = omega arith in same))))
part-get (suc n) zero (suc i) (p ∷ parts) h =
    let w = part-get n zero i parts (omega arith) in
    (omega arith, λ q e. w.1 q (e ∙ ap (λ k. slice_index_or (p ∷ parts) k q) (let same : 0 + suc i ≡ suc (0 + i) = omega arith in same)))

-- the place of a part in the list of parts
pub part-place : (slots : List Slot) (parts trail : List ℕ) (r i : ℕ) (s : Slot) (c : Cell) → slice_get slots r ≡ Some s → slice_get (the_store slots parts trail).cells r ≡ Some c → is_bound c ≡ false → i < length (parts_of c) → (s.start + i < length parts) × ((p : ℕ) → p ≡ slice_index_or parts (s.start + i) p → slice_get (parts_of c) i ≡ Some p)
part-place slots parts trail r i s c e at b l =
    let there : slice_get (map (the_cell parts) slots) r ≡ Some (the_cell parts s) = slice_get-map (the_cell parts) slots r ∙ ap (option_map (the_cell parts)) e in
    let same : the_cell parts s ≡ c = let q : Some (the_cell parts s) ≡ Some c = sym there ∙ at in cc in
    subst (λ x. (s.start + i < length parts) × ((p : ℕ) → p ≡ slice_index_or parts (s.start + i) p → slice_get (parts_of x) i ≡ Some p)) same
    (by s.content (subst (λ x. is_bound x ≡ false) (sym same) b) (subst (λ x. i < length (parts_of x)) (sym same) l))
  where
    by : (k : Content) → is_bound (the_cell_at parts s.start k) ≡ false → i < length (parts_of (the_cell_at parts s.start k)) → (s.start + i < length parts) × ((p : ℕ) → p ≡ slice_index_or parts (s.start + i) p → slice_get (parts_of (the_cell_at parts s.start k)) i ≡ Some p)
    by (Open sort) b l = absurd (omega arith)
    by (Bound sort q) b l = absurd (false≢true (sym b))
    by (Fun f n) b l = part-get n s.start i parts l
    by (Eigen p n) b l = part-get n s.start i parts l
    by (New p n) b l = part-get n s.start i parts l
    by (Marks n) b l = part-get n s.start i parts l

pub part-within : (s : Store) (r i k : ℕ) (c : Cell) → IsWellFormed s → slice_get s.cells r ≡ Some c → slice_get (parts_of c) i ≡ Some k → k < length s.cells
part-within s r i k c w e p = parts-within s c i k ((kept s w.fits).fits r c e) p

pub length-cells : (slots : List Slot) (parts : List ℕ) → length (map (the_cell parts) slots) ≡ length slots
length-cells [] parts = refl
length-cells (s ∷ slots) parts = ap suc (length-cells slots parts)

pub bound-not-end : (s : Store) (v : ℕ) (sort : Sort) (r : ℕ) (c : Cell) → IsEnd s v → slice_get s.cells v ≡ Some c → c ≡ variable sort (Some r) → ⊥
bound-not-end s v sort r c (d, e, b) f q = false≢true (sym b ∙ ap is_bound (let p : d ≡ c = let w : Some d ≡ Some c = sym e ∙ f in cc in p ∙ q))

-- the part at the end of bindings
pub ended-part : (s : Store) (r v i : ℕ) → EndsAt s r v → EndsIn s r (λ c. i < length (parts_of c)) → (c : Cell) × (slice_get s.cells v ≡ Some c) × (is_bound c ≡ false) × (i < length (parts_of c))
ended-part s r v i e (w, c, f, g, l) =
    let same = ends-once s r w v f e in
    let at : slice_get s.cells v ≡ Some c = ap (slice_get s.cells) (sym same) ∙ g in
    let (d, h, b) = ends-there s r v e in
    let q : d ≡ c = let p : Some d ≡ Some c = sym h ∙ at in cc in
    (c, at, ap is_bound (sym q) ∙ b, l)

-- ---- the end of bindings

pub shown-head : (k : Content) (c : Cell) → ShowsCell k c → head_of c ≡ the_head k
shown-head (Open sort) c q = ap head_of q
shown-head (Bound sort r) c q = ap head_of q
shown-head (Fun f n) c (rs, q, l) = ap head_of q
shown-head (Eigen p n) c (rs, q, l) = ap head_of q
shown-head (New p n) c (rs, q, l) = ap head_of q
shown-head (Marks n) c (rs, q, l) = ap head_of q

pub shown-count : (k : Content) (c : Cell) → ShowsCell k c → is_bound c ≡ false → part_count k ≡ length (parts_of c)
shown-count (Open sort) c q b = ap (λ x. length (parts_of x)) (sym q)
shown-count (Bound sort r) c q b = absurd (false≢true (sym b ∙ ap is_bound q))
shown-count (Fun f n) c (rs, q, l) b = sym l ∙ ap (λ x. length (parts_of x)) (sym q)
shown-count (Eigen p n) c (rs, q, l) b = sym l ∙ ap (λ x. length (parts_of x)) (sym q)
shown-count (New p n) c (rs, q, l) b = sym l ∙ ap (λ x. length (parts_of x)) (sym q)
shown-count (Marks n) c (rs, q, l) b = sym l ∙ ap (λ x. length (parts_of x)) (sym q)

-- the cell at the end of bindings
pub shown-end : (s : Store) (r v : ℕ) (k : Content) → EndsAt s r v → Shows s v k → EndsIn s v (λ c. head_of c ≡ the_head k) × EndsIn s v (λ c. part_count k ≡ length (parts_of c))
shown-end s r v k e (c, at, h) =
    let (d, there, b) = ends-there s r v e in
    let q : d ≡ c = let p : Some d ≡ Some c = sym there ∙ at in cc in
    let unbound = ap is_bound (sym q) ∙ b in
    ((v, c, stays at unbound, at, shown-head k c h), (v, c, stays at unbound, at, shown-count k c h unbound))

-- the parts of a cell in the list of all parts
pub parts-place : (slots : List Slot) (parts trail : List ℕ) (r : ℕ) (s : Slot) → IsWell slots parts trail → slice_get slots r ≡ Some s → IsEnd (the_store slots parts trail) r → (s.start + part_count s.content ≤ length parts) × EndsIn (the_store slots parts trail) r (λ c. take (part_count s.content) (drop s.start parts) ≡ parts_of c)
parts-place slots parts trail r s w e (c, at, b) =
    let there : slice_get (map (the_cell parts) slots) r ≡ Some (the_cell parts s) = slice_get-map (the_cell parts) slots r ∙ ap (option_map (the_cell parts)) e in
    let same : the_cell parts s ≡ c = let q : Some (the_cell parts s) ≡ Some c = sym there ∙ at in cc in
    (laid-at 0 slots (length parts) r s w.laid e, (r, c, stays at b, at, by s.content (ap is_bound same ∙ b) ∙ ap parts_of same))
  where
    by : (k : Content) → is_bound (the_cell_at parts s.start k) ≡ false → take (part_count k) (drop s.start parts) ≡ parts_of (the_cell_at parts s.start k)
    by (Open sort) b = refl
    by (Bound sort q) b = absurd (false≢true (sym b))
    by (Fun f n) b = refl
    by (Eigen p n) b = refl
    by (New p n) b = refl
    by (Marks n) b = refl
