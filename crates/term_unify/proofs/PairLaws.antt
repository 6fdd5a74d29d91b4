-- The loops of unification: pairs of parts, places that are still to be looked at.
use Rattle.std.proofs.Common.{◌⊎◌, ◌≡◌, ◌≤◌, ◌<◌, ◌+◌, ◌++◌, ◌∷◌, ◌==◌, [], None, Some, length, ℕ, zero, suc, List, true, false, map, take, refl, sym, ap, ap₂, ◌∙◌, subst, arith, inl, inr, append_assoc, eqb-true, option_map, Result, Ok, Err}
use Rattle.std.specs.Prelude.{IfOk, OnErr, slice_get}
use Rattle.std.proofs.lemmas.Bool.{false≢true, and_parts}
use Rattle.plain_laws.proofs.Lists.{map-last}
use Rattle.calculus.specs.declared.sort.Sort.{Sort}
use Rattle.store_theory.specs.Stores.{Cell, variable, fun_cell, eigen_cell, new_cell, string_cell, Store, parts_of, is_bound, OccursIn, here, in_part, EndsAt, stays, goes_on, Solution, Solves}
use Rattle.store_theory.specs.Bindings.{EndsIn, IsEnd, IsWellFormed, SolvesPairs, part_pairs, are_alike, is_variable, MayBind, with_binding, BindsOnly, KeepsMarks, bind_at, bound_to}
use Rattle.store_theory.proofs.BindingLaws.{ends-once, kept, parts-within, get-bound, get-unbound, same_place, length-bind, KeepsMarks-same, KeepsMarks-both, KeepsMarks-with_binding, IsWellFormed-with_binding, bound-part}
use Rattle.store_theory.proofs.WeightLaws.{weight, weight_sum, weight_sum-none, weight_sum-more, weight_sum-append, weight-parts, weight-positive, weight-bound}
use Rattle.store_theory.proofs.SolutionLaws.{ends-same, alike-parts, SolvesPairs-join, SolvesPairs-split, Solves-bound, Solves-unbound, occurs-apart}
use Rattle.term_store.specs.declared.cell.Ref.{Ref}
use Rattle.term_unify.specs.PairView.{the_pair}
use Rattle.term_unify.specs.Steps.{AreBuilt, AddsParts, AreCells, OccursAmong, AreAllCells, SolvesAll, IsBinding, AreEnds, OccursInPairs, OccursBefore, BindsInPairs}

pub take-more : (i : ℕ) (xs : List ℕ) (x : ℕ) → slice_get xs i ≡ Some x → take (i + 1) xs ≡ take i xs ++ x ∷ []
take-more i xs x e = ap (λ n. take n xs) (let p : i + 1 ≡ suc i = omega arith in p) ∙ by i xs e
  where
    by : (i : ℕ) (xs : List ℕ) → slice_get xs i ≡ Some x → take (suc i) xs ≡ take i xs ++ x ∷ []
    by i [] e = absurd (cc)
    by zero (y ∷ xs) e = ap (λ z. z ∷ []) (let q : y ≡ x = cc in q)
    by (suc i) (y ∷ xs) e = ap (λ zs. y ∷ zs) (by i xs e)

pairs-more : (i : ℕ) (xs ys : List ℕ) (x y : ℕ) → slice_get xs i ≡ Some x → slice_get ys i ≡ Some y → part_pairs (take (i + 1) xs) (take (i + 1) ys) ≡ part_pairs (take i xs) (take i ys) ++ (x, y) ∷ []
pairs-more i xs ys x y e f = ap (λ n. part_pairs (take n xs) (take n ys)) (let p : i + 1 ≡ suc i = omega arith in p) ∙ by i xs ys e f
  where
    by : (i : ℕ) (xs ys : List ℕ) → slice_get xs i ≡ Some x → slice_get ys i ≡ Some y → part_pairs (take (suc i) xs) (take (suc i) ys) ≡ part_pairs (take i xs) (take i ys) ++ (x, y) ∷ []
    by i [] ys e f = absurd (cc)
    by i (v ∷ xs) [] e f = absurd (cc)
    by zero (v ∷ xs) (w ∷ ys) e f = ap₂ (λ p q. let r : ℕ × ℕ = (p, q) in r ∷ []) (let q : v ≡ x = cc in q) (let q : w ≡ y = cc in q)
    by (suc i) (v ∷ xs) (w ∷ ys) e f = ap (λ zs. (v, w) ∷ zs) (by i xs ys e f)

take-whole : (n : ℕ) (xs : List ℕ) → n ≡ length xs → take n xs ≡ xs
take-whole zero [] h = refl
take-whole (suc n) [] h = absurd (omega arith)
take-whole zero (x ∷ xs) h = absurd (omega arith)
take-whole (suc n) (x ∷ xs) h = ap (λ ys. x ∷ ys) (take-whole n xs (omega arith))

-- ---- parts of one cell

-- what a call tells of the cell at an end
pub told : (s : Store) (r : ℕ) (c : Cell) (P : Cell → Type 0) → slice_get s.cells r ≡ Some c → is_bound c ≡ false → EndsIn s r P → P c
told s r c P e b (v, d, f, g, p) =
    let same = ends-once s r r v (stays e b) f in
    let q : d ≡ c = let w : Some d ≡ Some c = sym g ∙ ap (slice_get s.cells) (sym same) ∙ e in cc in
    subst P q p

pub tells : (s : Store) (r : ℕ) (c : Cell) (P : Cell → Type 0) → slice_get s.cells r ≡ Some c → is_bound c ≡ false → P c → EndsIn s r P
tells s r c P e b p = (r, c, stays e b, e, p)

-- all parts
pub all-done : (s : Store) (r n : ℕ) (c : Cell) → slice_get s.cells r ≡ Some c → IsEnd s r → EndsIn s r (λ d. n ≡ length (parts_of d)) → take n (parts_of c) ≡ parts_of c
all-done s r n c e end t =
    let b : is_bound c ≡ false = let q : end.0 ≡ c = let w : Some end.0 ≡ Some c = sym end.1 ∙ e in cc in ap is_bound (sym q) ∙ end.2 in
    take-whole n (parts_of c) (told s r c (λ d. n ≡ length (parts_of d)) e b t)

-- a list of all parts tells each of them, and how many there are
pub part-among : (s : Store) (r i k : ℕ) (xs : List ℕ) → EndsIn s r (λ d. xs ≡ parts_of d) → slice_get xs i ≡ Some k → EndsIn s r (λ d. slice_get (parts_of d) i ≡ Some k)
part-among s r i k xs (v, c, e, at, q) h = (v, c, e, at, ap (λ ys. slice_get ys i) (sym q) ∙ h)

pub parts-count : (s : Store) (r : ℕ) (xs : List ℕ) → EndsIn s r (λ d. xs ≡ parts_of d) → EndsIn s r (λ d. length xs ≡ length (parts_of d))
parts-count s r xs (v, c, e, at, q) = (v, c, e, at, ap length q)

pub part-inside : (s : Store) (r i k : ℕ) (xs : List ℕ) → IsWellFormed s → EndsIn s r (λ d. xs ≡ parts_of d) → slice_get xs i ≡ Some k → k < length s.cells
part-inside s r i k xs w (v, c, e, at, q) h = parts-within s c i k ((kept s w.fits).fits v c at) (ap (λ ys. slice_get ys i) (sym q) ∙ h)

-- ---- parts of two cells

pub alike-unbound : (c d : Cell) → are_alike c d ≡ true → (is_bound c ≡ false) × (is_bound d ≡ false) × (length (parts_of c) ≡ length (parts_of d)) × (is_variable c ≡ false)
alike-unbound (variable sort b) d h = absurd (false≢true h)
alike-unbound (fun_cell f rs) (fun_cell g qs) h = (refl, refl, eqb-true (length rs) (length qs) (and_parts (f == g) (length rs == length qs) h).1, refl)
alike-unbound (eigen_cell f rs) (eigen_cell g qs) h = (refl, refl, eqb-true (length rs) (length qs) (and_parts (f == g) (length rs == length qs) h).1, refl)
alike-unbound (new_cell f rs) (new_cell g qs) h = (refl, refl, eqb-true (length rs) (length qs) (and_parts (f == g) (length rs == length qs) h).1, refl)
alike-unbound (string_cell rs) (string_cell qs) h = (refl, refl, eqb-true (length rs) (length qs) h, refl)
alike-unbound (fun_cell f rs) (variable sort b) h = absurd (false≢true h)
alike-unbound (fun_cell f rs) (eigen_cell g qs) h = absurd (false≢true h)
alike-unbound (fun_cell f rs) (new_cell g qs) h = absurd (false≢true h)
alike-unbound (fun_cell f rs) (string_cell qs) h = absurd (false≢true h)
alike-unbound (eigen_cell f rs) (variable sort b) h = absurd (false≢true h)
alike-unbound (eigen_cell f rs) (fun_cell g qs) h = absurd (false≢true h)
alike-unbound (eigen_cell f rs) (new_cell g qs) h = absurd (false≢true h)
alike-unbound (eigen_cell f rs) (string_cell qs) h = absurd (false≢true h)
alike-unbound (new_cell f rs) (variable sort b) h = absurd (false≢true h)
alike-unbound (new_cell f rs) (fun_cell g qs) h = absurd (false≢true h)
alike-unbound (new_cell f rs) (eigen_cell g qs) h = absurd (false≢true h)
alike-unbound (new_cell f rs) (string_cell qs) h = absurd (false≢true h)
alike-unbound (string_cell rs) (variable sort b) h = absurd (false≢true h)
alike-unbound (string_cell rs) (fun_cell g qs) h = absurd (false≢true h)
alike-unbound (string_cell rs) (eigen_cell g qs) h = absurd (false≢true h)
alike-unbound (string_cell rs) (new_cell g qs) h = absurd (false≢true h)

pub built-left : (s : Store) (a b : ℕ) → AreBuilt s a b → IsEnd s a
built-left s a b w = (w.left, w.left_at, (alike-unbound w.left w.right w.alike).0)

pub built-right : (s : Store) (a b : ℕ) → AreBuilt s a b → IsEnd s b
built-right s a b w = (w.right, w.right_at, (alike-unbound w.left w.right w.alike).1)

-- the other cell has as many parts
pub built-count : (s : Store) (a b n : ℕ) → AreBuilt s a b → EndsIn s a (λ d. n ≡ length (parts_of d)) → EndsIn s b (λ d. n ≡ length (parts_of d))
built-count s a b n w t =
    let u = alike-unbound w.left w.right w.alike in
    let m = told s a w.left (λ d. n ≡ length (parts_of d)) w.left_at u.0 t in
    tells s b w.right (λ d. n ≡ length (parts_of d)) w.right_at u.1 (m ∙ u.2)

pub as-many : (s : Store) (a b : ℕ) (xs ys : List ℕ) → AreBuilt s a b → EndsIn s a (λ d. xs ≡ parts_of d) → EndsIn s b (λ d. ys ≡ parts_of d) → length xs ≡ length ys
as-many s a b xs ys w t u =
    let end = built-right s a b w in
    told s b end.0 (λ d. length xs ≡ length (parts_of d)) end.1 end.2 (built-count s a b (length xs) w (parts-count s a xs t))
    ∙ sym (ap length (told s b end.0 (λ d. ys ≡ parts_of d) end.1 end.2 u))

pub pairs-added : (s : Store) (a b i : ℕ) (c d : Cell) (p q : Ref) (items before : List (Ref × Ref)) → AreBuilt s a b → slice_get s.cells a ≡ Some c → slice_get s.cells b ≡ Some d → EndsIn s a (λ e. slice_get (parts_of e) i ≡ Some p.0) → EndsIn s b (λ e. slice_get (parts_of e) i ≡ Some q.0) → map the_pair items ≡ map the_pair before ++ part_pairs (take i (parts_of c)) (take i (parts_of d)) → map the_pair (items ++ (p, q) ∷ []) ≡ map the_pair before ++ part_pairs (take (i + 1) (parts_of c)) (take (i + 1) (parts_of d))
pairs-added s a b i c d p q items before w e f t u h =
    let k = alike-unbound w.left w.right w.alike in
    let same : w.left ≡ c = let z : Some w.left ≡ Some c = sym w.left_at ∙ e in cc in
    let same' : w.right ≡ d = let z : Some w.right ≡ Some d = sym w.right_at ∙ f in cc in
    let x = told s a c (λ e. slice_get (parts_of e) i ≡ Some p.0) e (ap is_bound (sym same) ∙ k.0) t in
    let y = told s b d (λ e. slice_get (parts_of e) i ≡ Some q.0) f (ap is_bound (sym same') ∙ k.1) u in
    map-last the_pair items (p, q) ∙ ap (λ xs. xs ++ (p.0, q.0) ∷ []) h ∙ append_assoc (map the_pair before) (part_pairs (take i (parts_of c)) (take i (parts_of d))) ((p.0, q.0) ∷ []) ∙ ap (λ xs. map the_pair before ++ xs) (sym (pairs-more i (parts_of c) (parts_of d) p.0 q.0 x y))

pub pairs-done : (s : Store) (a b n : ℕ) (c d : Cell) → AreBuilt s a b → slice_get s.cells a ≡ Some c → slice_get s.cells b ≡ Some d → EndsIn s a (λ e. n ≡ length (parts_of e)) → part_pairs (take n (parts_of c)) (take n (parts_of d)) ≡ part_pairs (parts_of c) (parts_of d)
pairs-done s a b n c d w e f t = ap₂ part_pairs (all-done s a n c e (built-left s a b w) t) (all-done s b n d f (built-right s a b w) (built-count s a b n w t))

-- ---- the occurs check

pub occurs-end : (s : Store) (v r e : ℕ) → IsEnd s v → EndsAt s r e → (OccursIn s v r → OccursIn s v e) × (OccursIn s v e → OccursIn s v r)
occurs-end s v r e w (stays f b) = (λ o. o, λ o. o)
occurs-end s v r e w (goes_on {k = k} {sort = sort} f o) =
    let below = occurs-end s v k e w o in
    (λ x. below.0 (down r x f), λ x. in_part 0 f refl (below.1 x))
  where
    down : (r : ℕ) → OccursIn s v r → slice_get s.cells r ≡ Some (variable sort (Some k)) → OccursIn s v k
    down r here g = absurd (false≢true (sym w.2 ∙ ap is_bound (let q : w.0 ≡ variable sort (Some k) = let p : Some w.0 ≡ Some (variable sort (Some k)) = sym w.1 ∙ g in cc in q)))
    down r (in_part i {k = j} {c = c} h p x) g = let q : c ≡ variable sort (Some k) = let p : Some c ≡ Some (variable sort (Some k)) = sym h ∙ g in cc in subst (OccursIn s v) (bound-part sort k i j c q p) x

pub among-from : (s : Store) (v : ℕ) (rs : List ℕ) → OccursAmong s v rs → (i : ℕ) × (k : ℕ) × (slice_get rs i ≡ Some k) × OccursIn s v k
among-from s v [] o = absurd o
among-from s v (r ∷ rs) (inl o) = (0, r, refl, o)
among-from s v (r ∷ rs) (inr o) = let w = among-from s v rs o in (suc w.0, w.1, w.2, w.3)

pub among-split : (s : Store) (v : ℕ) (rs qs : List ℕ) → OccursAmong s v (rs ++ qs) → OccursAmong s v rs ⊎ OccursAmong s v qs
among-split s v [] qs o = inr o
among-split s v (r ∷ rs) qs (inl o) = inl (inl o)
among-split s v (r ∷ rs) qs (inr o) = elim (among-split s v rs qs o) [ inl p ↦ inl (inr p) | inr p ↦ inr p ]

pub among-front : (s : Store) (v : ℕ) (rs qs : List ℕ) → OccursAmong s v rs → OccursAmong s v (rs ++ qs)
among-front s v [] qs o = absurd o
among-front s v (r ∷ rs) qs (inl o) = inl o
among-front s v (r ∷ rs) qs (inr o) = inr (among-front s v rs qs o)

pub among-back : (s : Store) (v : ℕ) (rs qs : List ℕ) → OccursAmong s v qs → OccursAmong s v (rs ++ qs)
among-back s v [] qs o = o
among-back s v (r ∷ rs) qs o = inr (among-back s v rs qs o)

pub cells-split : (s : Store) (rs qs : List ℕ) → AreAllCells s (rs ++ qs) → AreAllCells s rs × AreAllCells s qs
cells-split s [] qs h = (tt, h)
cells-split s (r ∷ rs) qs h = let w = cells-split s rs qs h.1 in ((h.0, w.0), w.1)

pub cells-join : (s : Store) (rs qs : List ℕ) → AreAllCells s rs → AreAllCells s qs → AreAllCells s (rs ++ qs)
cells-join s [] qs h k = k
cells-join s (r ∷ rs) qs h k = (h.0, cells-join s rs qs h.1 k)

cells-from : (s : Store) (rs : List ℕ) → ((i k : ℕ) → slice_get rs i ≡ Some k → k < length s.cells) → AreAllCells s rs
cells-from s [] h = tt
cells-from s (r ∷ rs) h = (h 0 r refl, cells-from s rs (λ i k e. h (suc i) k e))

pub parts-cells : (s : Store) (r : ℕ) (c : Cell) → IsWellFormed s → slice_get s.cells r ≡ Some c → AreAllCells s (parts_of c)
parts-cells s r c w e = cells-from s (parts_of c) (λ i k p. parts-within s c i k ((kept s w.fits).fits r c e) p)

pub weight-ends : (s : Store) → IsWellFormed s → (r e : ℕ) → EndsAt s r e → weight s e ≤ weight s r
weight-ends s w r e (stays f b) = omega arith
weight-ends s w r e (goes_on {k = k} {sort = sort} f o) =
    let a = weight-bound s w r k sort f in
    let b = weight-ends s w k e o in
    omega arith

pub looks-less : (s : Store) (r e : ℕ) (c : Cell) (rest rs more : List ℕ) → IsWellFormed s → rs ≡ rest ++ r ∷ [] → EndsAt s r e → slice_get s.cells e ≡ Some c → more ≡ rest ++ parts_of c → weight_sum s more < weight_sum s rs
looks-less s r e c rest rs more sound q f g m =
    let a = weight-ends s sound r e f in
    let b = weight-parts s sound.fits sound.rank e c g in
    let x = ap (weight_sum s) q ∙ weight_sum-append s rest (r ∷ []) in
    let y = ap (weight_sum s) m ∙ weight_sum-append s rest (parts_of c) in
    let z = weight_sum-more s r [] in
    let o = weight_sum-none s in
    omega arith

-- ---- the list of pairs

pub pair_lefts : List (ℕ × ℕ) → List ℕ
pair_lefts [] = []
pair_lefts (p ∷ ps) = p.0 ∷ pair_lefts ps

pub pairs_weight : Store → List (ℕ × ℕ) → ℕ
pairs_weight s ps = weight_sum s (pair_lefts ps)

lefts-append : (ps qs : List (ℕ × ℕ)) → pair_lefts (ps ++ qs) ≡ pair_lefts ps ++ pair_lefts qs
unfolding pair_lefts
lefts-append [] qs = refl
lefts-append (p ∷ ps) qs = ap (λ xs. p.0 ∷ xs) (lefts-append ps qs)

lefts-parts : (rs qs : List ℕ) → length rs ≡ length qs → pair_lefts (part_pairs rs qs) ≡ rs
unfolding pair_lefts
lefts-parts [] qs h = refl
lefts-parts (r ∷ rs) [] h = absurd (omega arith)
lefts-parts (r ∷ rs) (q ∷ qs) h = ap (λ xs. r ∷ xs) (lefts-parts rs qs (omega arith))

pair_cells-split : (s : Store) (ps qs : List (ℕ × ℕ)) → AreCells s (ps ++ qs) → AreCells s ps × AreCells s qs
pair_cells-split s [] qs h = (tt, h)
pair_cells-split s (p ∷ ps) qs h = let w = pair_cells-split s ps qs h.2 in ((h.0, h.1, w.0), w.1)

pair_cells-join : (s : Store) (ps qs : List (ℕ × ℕ)) → AreCells s ps → AreCells s qs → AreCells s (ps ++ qs)
pair_cells-join s [] qs h k = k
pair_cells-join s (p ∷ ps) qs h k = (h.0, h.1, pair_cells-join s ps qs h.2 k)

pair_cells-parts : (s : Store) (rs qs : List ℕ) → AreAllCells s rs → AreAllCells s qs → AreCells s (part_pairs rs qs)
pair_cells-parts s [] qs h k = tt
pair_cells-parts s (r ∷ rs) [] h k = tt
pair_cells-parts s (r ∷ rs) (q ∷ qs) h k = (h.0, k.0, pair_cells-parts s rs qs h.1 k.1)

-- ---- what occurs in pairs

pub occurs-from_end : (s : Store) (v r e : ℕ) → EndsAt s r e → OccursIn s v e → OccursIn s v r
occurs-from_end s v r e (stays f b) o = o
occurs-from_end s v r e (goes_on f h) o = in_part 0 f refl (occurs-from_end s v _ e h o)

pairs-split : (s : Store) (v : ℕ) (ps qs : List (ℕ × ℕ)) → OccursInPairs s v (ps ++ qs) → OccursInPairs s v ps ⊎ OccursInPairs s v qs
pairs-split s v [] qs o = inr o
pairs-split s v (p ∷ ps) qs (inl o) = inl (inl o)
pairs-split s v (p ∷ ps) qs (inr o) = elim (pairs-split s v ps qs o) [ inl h ↦ inl (inr h) | inr h ↦ inr h ]

pairs-front : (s : Store) (v : ℕ) (ps qs : List (ℕ × ℕ)) → OccursInPairs s v ps → OccursInPairs s v (ps ++ qs)
pairs-front s v [] qs o = absurd o
pairs-front s v (p ∷ ps) qs (inl o) = inl o
pairs-front s v (p ∷ ps) qs (inr o) = inr (pairs-front s v ps qs o)

pairs-back : (s : Store) (v : ℕ) (ps qs : List (ℕ × ℕ)) → OccursInPairs s v qs → OccursInPairs s v (ps ++ qs)
pairs-back s v [] qs o = o
pairs-back s v (p ∷ ps) qs o = inr (pairs-back s v ps qs o)

-- parts of two cells
pairs-of_parts : (s : Store) (v x y : ℕ) (c d : Cell) → slice_get s.cells x ≡ Some c → slice_get s.cells y ≡ Some d → OccursInPairs s v (part_pairs (parts_of c) (parts_of d)) → OccursIn s v x ⊎ OccursIn s v y
pairs-of_parts s v x y c d e f o = by (parts_of c) (parts_of d) (λ i k p h. in_part i e p h) (λ i k p h. in_part i f p h) o
  where
    by : (rs qs : List ℕ) → ((i k : ℕ) → slice_get rs i ≡ Some k → OccursIn s v k → OccursIn s v x) → ((i k : ℕ) → slice_get qs i ≡ Some k → OccursIn s v k → OccursIn s v y) → OccursInPairs s v (part_pairs rs qs) → OccursIn s v x ⊎ OccursIn s v y
    by [] qs g h o = absurd o
    by (r ∷ rs) [] g h o = absurd o
    by (r ∷ rs) (q ∷ qs) g h (inl (inl o)) = inl (g 0 r refl o)
    by (r ∷ rs) (q ∷ qs) g h (inl (inr o)) = inr (h 0 q refl o)
    by (r ∷ rs) (q ∷ qs) g h (inr o) = by rs qs (λ i k. g (suc i) k) (λ i k. h (suc i) k) o

-- the pairs that are left have the solutions of the first ones
pub record ComesTo (s : Store) (first left : List (ℕ × ℕ)) : Type 0 where
  pub cells : AreCells s left
  pub down : (σ : Solution) → Solves s σ → SolvesPairs σ first → SolvesPairs σ left
  pub up : (σ : Solution) → Solves s σ → SolvesPairs σ left → SolvesPairs σ first
  pub occurs : OccursBefore s first left

pub comes-first : (s : Store) (ps : List (ℕ × ℕ)) → AreCells s ps → ComesTo s ps ps
comes-first s ps h = record { cells = h; down = λ σ k p. p; up = λ σ k p. p; occurs = λ v o. o }

-- in the pairs before the last one, and in the last one
pub comes-occurs : (s : Store) (first left rest : List (ℕ × ℕ)) (a b : ℕ) → ComesTo s first left → left ≡ rest ++ (a, b) ∷ [] → (v : ℕ) → OccursInPairs s v rest ⊎ (OccursIn s v a ⊎ OccursIn s v b) → OccursInPairs s v first
comes-occurs s first left rest a b w e v (inl o) = w.occurs v (subst (OccursInPairs s v) (sym e) (pairs-front s v rest ((a, b) ∷ []) o))
comes-occurs s first left rest a b w e v (inr o) = w.occurs v (subst (OccursInPairs s v) (sym e) (pairs-back s v rest ((a, b) ∷ []) (inl o)))

pub comes-pair : (s : Store) (first left rest : List (ℕ × ℕ)) (a b : ℕ) → ComesTo s first left → left ≡ rest ++ (a, b) ∷ [] → (a < length s.cells) × (b < length s.cells)
comes-pair s first left rest a b w e = let h = (pair_cells-split s rest ((a, b) ∷ []) (subst (AreCells s) e w.cells)).1 in (h.0, h.1)

pub comes-split : (s : Store) (first left rest : List (ℕ × ℕ)) (a b : ℕ) → ComesTo s first left → left ≡ rest ++ (a, b) ∷ [] → (σ : Solution) → Solves s σ → SolvesPairs σ first → SolvesPairs σ rest × (σ a ≡ σ b)
comes-split s first left rest a b w e σ h p = let z = SolvesPairs-split σ rest ((a, b) ∷ []) (subst (SolvesPairs σ) e (w.down σ h p)) in (z.0, z.1.0)

pub comes-join : (s : Store) (first left rest : List (ℕ × ℕ)) (a b : ℕ) → ComesTo s first left → left ≡ rest ++ (a, b) ∷ [] → (σ : Solution) → Solves s σ → SolvesPairs σ rest → σ a ≡ σ b → SolvesPairs σ first
comes-join s first left rest a b w e σ h p q = w.up σ h (subst (SolvesPairs σ) (sym e) (SolvesPairs-join σ rest ((a, b) ∷ []) p (q, tt)))

pub comes-same : (s : Store) (first left rest : List (ℕ × ℕ)) (a b : ℕ) → ComesTo s first left → left ≡ rest ++ (a, b) ∷ [] → ((σ : Solution) → Solves s σ → σ a ≡ σ b) → ComesTo s first rest
comes-same s first left rest a b w e q = record {
  cells = (pair_cells-split s rest ((a, b) ∷ []) (subst (AreCells s) e w.cells)).0;
  down = λ σ h p. (comes-split s first left rest a b w e σ h p).0;
  up = λ σ h p. comes-join s first left rest a b w e σ h p (q σ h);
  occurs = λ v o. comes-occurs s first left rest a b w e v (inl o);
}

pub comes-apart : (s : Store) (first left rest : List (ℕ × ℕ)) (a b : ℕ) → ComesTo s first left → left ≡ rest ++ (a, b) ∷ [] → ((σ : Solution) → Solves s σ → ¬ (σ a ≡ σ b)) → (σ : Solution) → Solves s σ → ¬ SolvesPairs σ first
comes-apart s first left rest a b w e q σ h p = q σ h (comes-split s first left rest a b w e σ h p).1

pub comes-binding : (s : Store) (first left rest : List (ℕ × ℕ)) (a b v r : ℕ) → ComesTo s first left → left ≡ rest ++ (a, b) ∷ [] → ((σ : Solution) → Solves s σ → (σ a ≡ σ b → σ v ≡ σ r) × (σ v ≡ σ r → σ a ≡ σ b)) → (σ : Solution) → Solves s σ → (SolvesPairs σ first → (σ v ≡ σ r) × SolvesPairs σ rest) × ((σ v ≡ σ r) × SolvesPairs σ rest → SolvesPairs σ first)
comes-binding s first left rest a b v r w e q σ h =
    (λ p. let z = comes-split s first left rest a b w e σ h p in ((q σ h).0 z.1, z.0), λ p. comes-join s first left rest a b w e σ h p.1 ((q σ h).1 p.0))

-- what is to be bound occurs in the pairs
pub comes-ends : (s : Store) (first left rest : List (ℕ × ℕ)) (a b v r : ℕ) → ComesTo s first left → left ≡ rest ++ (a, b) ∷ [] → AreEnds s a b v r → OccursBefore s first ((v, r) ∷ rest)
comes-ends s first left rest a b v r w e h k (inr o) = comes-occurs s first left rest a b w e k (inl o)
comes-ends s first left rest a b v r w e (inl (f, g)) k (inl (inl o)) = comes-occurs s first left rest a b w e k (inr (inl (occurs-from_end s k a v f o)))
comes-ends s first left rest a b v r w e (inl (f, g)) k (inl (inr o)) = comes-occurs s first left rest a b w e k (inr (inr (occurs-from_end s k b r g o)))
comes-ends s first left rest a b v r w e (inr (f, g)) k (inl (inl o)) = comes-occurs s first left rest a b w e k (inr (inr (occurs-from_end s k b v f o)))
comes-ends s first left rest a b v r w e (inr (f, g)) k (inl (inr o)) = comes-occurs s first left rest a b w e k (inr (inl (occurs-from_end s k a r g o)))

pub comes-rest : (s : Store) (first left rest : List (ℕ × ℕ)) (a b : ℕ) → ComesTo s first left → left ≡ rest ++ (a, b) ∷ [] → AreCells s rest
comes-rest s first left rest a b w e = (pair_cells-split s rest ((a, b) ∷ []) (subst (AreCells s) e w.cells)).0

pub comes-parts : (s : Store) (first left rest more : List (ℕ × ℕ)) (a b x y : ℕ) → IsWellFormed s → ComesTo s first left → left ≡ rest ++ (a, b) ∷ [] → AreBuilt s x y × EndsAt s a x × EndsAt s b y → AddsParts s x y rest more → ComesTo s first more
comes-parts s first left rest more a b x y sound w e (u, f, g) added =
    let m = added u.left u.right u.left_at u.right_at in
    record {
      cells = subst (AreCells s) (sym m) (pair_cells-join s rest (part_pairs (parts_of u.left) (parts_of u.right)) (comes-rest s first left rest a b w e) (pair_cells-parts s (parts_of u.left) (parts_of u.right) (parts-cells s x u.left sound u.left_at) (parts-cells s y u.right sound u.right_at)));
      down = λ σ h p.
          let z = comes-split s first left rest a b w e σ h p in
          let q = sym (ends-same s σ a x h f) ∙ z.1 ∙ ends-same s σ b y h g in
          subst (SolvesPairs σ) (sym m) (SolvesPairs-join σ rest (part_pairs (parts_of u.left) (parts_of u.right)) z.0 ((alike-parts s σ x y u.left u.right h u.left_at u.right_at u.alike).0 q));
      up = λ σ h p.
          let z = SolvesPairs-split σ rest (part_pairs (parts_of u.left) (parts_of u.right)) (subst (SolvesPairs σ) m p) in
          let q = (alike-parts s σ x y u.left u.right h u.left_at u.right_at u.alike).1 z.1 in
          comes-join s first left rest a b w e σ h z.0 (ends-same s σ a x h f ∙ q ∙ sym (ends-same s σ b y h g));
      occurs = λ v o. comes-occurs s first left rest a b w e v (elim (pairs-split s v rest (part_pairs (parts_of u.left) (parts_of u.right)) (subst (OccursInPairs s v) m o)) [
        | inl h ↦ inl h
        | inr h ↦ elim (pairs-of_parts s v x y u.left u.right u.left_at u.right_at h) [ inl p ↦ inr (inl (occurs-from_end s v a x f p)) | inr p ↦ inr (inr (occurs-from_end s v b y g p)) ]
      ]);
    }

pub pairs-less : (s : Store) (left rest : List (ℕ × ℕ)) (a b : ℕ) → left ≡ rest ++ (a, b) ∷ [] → pairs_weight s rest < pairs_weight s left
unfolding pairs_weight pair_lefts
pairs-less s left rest a b e =
    let x = ap (λ ps. weight_sum s (pair_lefts ps)) e ∙ ap (weight_sum s) (lefts-append rest ((a, b) ∷ [])) ∙ weight_sum-append s (pair_lefts rest) (a ∷ []) in
    let z = weight_sum-more s a [] in
    let o = weight-positive s a in
    omega arith

pub parts-less : (s : Store) (left rest more : List (ℕ × ℕ)) (a b x y : ℕ) → IsWellFormed s → left ≡ rest ++ (a, b) ∷ [] → AreBuilt s x y × EndsAt s a x × EndsAt s b y → AddsParts s x y rest more → pairs_weight s more < pairs_weight s left
unfolding pairs_weight pair_lefts
parts-less s left rest more a b x y sound e (u, f, g) added =
    let m = added u.left u.right u.left_at u.right_at in
    let k = alike-unbound u.left u.right u.alike in
    let p = ap (λ ps. weight_sum s (pair_lefts ps)) m ∙ ap (weight_sum s) (lefts-append rest (part_pairs (parts_of u.left) (parts_of u.right))) ∙ weight_sum-append s (pair_lefts rest) (pair_lefts (part_pairs (parts_of u.left) (parts_of u.right))) in
    let p' = ap (weight_sum s) (lefts-parts (parts_of u.left) (parts_of u.right) k.2) in
    let q = ap (λ ps. weight_sum s (pair_lefts ps)) e ∙ ap (weight_sum s) (lefts-append rest ((a, b) ∷ [])) ∙ weight_sum-append s (pair_lefts rest) (a ∷ []) in
    let z = weight_sum-more s a [] in
    let o = weight_sum-none s in
    let c = weight-ends s sound a x f in
    let d = weight-parts s sound.fits sound.rank x u.left u.left_at in
    omega arith

-- ---- bindings

-- nothing but bindings comes by them
pub BindsOnly-same : (s : Store) → BindsOnly s s
BindsOnly-same s = record { same_length = refl; cells = λ n c e. inl e }

pub BindsOnly-both : (s t u : Store) → BindsOnly s t → BindsOnly t u → BindsOnly s u
BindsOnly-both s t u h k = record {
  same_length = k.same_length ∙ h.same_length;
  cells = λ n c e. elim (h.cells n c e) [
    | inl f ↦ k.cells n c f
    | inr (sort, r, q, f) ↦ elim (k.cells n (variable sort (Some r)) f) [
      | inl g ↦ inr (sort, r, q, g)
      | inr (sort', r', q', g) ↦ absurd (cc)
    ]
  ];
}

pub BindsOnly-with_binding : (v r : ℕ) (s : Store) (sort : Sort) → slice_get s.cells v ≡ Some (variable sort None) → BindsOnly s (with_binding v r s)
BindsOnly-with_binding v r s sort o = record {
  same_length = length-bind v r s.cells;
  cells = λ n c e. elim (same_place v n) [
    | inl p ↦
        let q : c ≡ variable sort None = let w : Some c ≡ Some (variable sort None) = sym e ∙ ap (slice_get s.cells) (sym p) ∙ o in cc in
        inr (sort, r, q, subst (λ x. slice_get (bind_at v r s.cells) x ≡ Some (variable sort (Some r))) p (get-bound v r s.cells ∙ ap (option_map (bound_to r)) o))
    | inr p ↦ inl (get-unbound v r n s.cells p ∙ e)
  ];
}

pub may-bind : (s : Store) (v r : ℕ) → IsBinding s v r → ¬ OccursIn s v r → MayBind s v r
may-bind s v r b n = record { sort = b.sort; open_cell = b.open_cell; same_sort = b.same_sort; no_cycle = n }

pair_cells-more : (s u : Store) (ps : List (ℕ × ℕ)) → length u.cells ≡ length s.cells → AreCells s ps → AreCells u ps
pair_cells-more s u [] e h = tt
pair_cells-more s u (p ∷ ps) e h = (let a = h.0 in omega arith, let b = h.1 in omega arith, pair_cells-more s u ps e h.2)

-- how far unification has come: the ground solutions of the store that solve the pairs that are left are those of the first store that solve
-- the first pairs
pub record Unified (s t : Store) (first left : List (ℕ × ℕ)) : Type 0 where
  pub cells : AreCells t left
  pub down : (σ : Solution) → Solves s σ → SolvesPairs σ first → Solves t σ × SolvesPairs σ left
  pub up : (σ : Solution) → Solves t σ → SolvesPairs σ left → Solves s σ × SolvesPairs σ first
  pub marks : KeepsMarks s t
  pub binds : BindsOnly s t
  pub sound : IsWellFormed t
  pub occurs : (v : ℕ) → OccursInPairs t v left → OccursInPairs s v first
  pub within : BindsInPairs first s t

pub BindsInPairs-same : (ps : List (ℕ × ℕ)) (s : Store) → BindsInPairs ps s s
BindsInPairs-same ps s = λ v k sort e f. absurd (let q : Some (variable sort None) ≡ Some (variable sort (Some k)) = sym e ∙ f in cc q)

pub unified-first : (s : Store) (ps : List (ℕ × ℕ)) → AreCells s ps → IsWellFormed s → Unified s s ps ps
unified-first s ps h w = record { cells = h; down = λ σ h p. (h, p); up = λ σ h p. (h, p); marks = KeepsMarks-same s; binds = BindsOnly-same s; sound = w; occurs = λ v o. o; within = BindsInPairs-same ps s }

-- what occurs once v is bound to r: what occurred there or in r
occurs-bound : (t : Store) (v r k q : ℕ) (sort : Sort) → slice_get t.cells v ≡ Some (variable sort None) → OccursIn (with_binding v r t) k q → OccursIn t k q ⊎ OccursIn t k r
occurs-bound t v r k q sort o here = inl here
occurs-bound t v r k q sort o (in_part i {k = j} {c = c} e p h) = elim (occurs-bound t v r k j sort o h) [
  | inr x ↦ inr x
  | inl x ↦ elim (same_place v q) [
    | inl m ↦
        let at : slice_get (bind_at v r t.cells) v ≡ Some (variable sort (Some r)) = get-bound v r t.cells ∙ ap (option_map (bound_to r)) o in
        let is : c ≡ variable sort (Some r) = let w : Some c ≡ Some (variable sort (Some r)) = sym e ∙ sym (ap (slice_get (bind_at v r t.cells)) m) ∙ at in cc in
        inr (subst (OccursIn t k) (bound-part sort r i j c is p) x)
    | inr m ↦ inl (in_part i (sym (get-unbound v r q t.cells m) ∙ e) p x)
  ]
]

pairs-bound : (t : Store) (v r k : ℕ) (sort : Sort) (ps : List (ℕ × ℕ)) → slice_get t.cells v ≡ Some (variable sort None) → OccursInPairs (with_binding v r t) k ps → OccursInPairs t k ps ⊎ OccursIn t k r
pairs-bound t v r k sort [] o h = absurd h
pairs-bound t v r k sort (p ∷ ps) o (inl (inl h)) = elim (occurs-bound t v r k p.0 sort o h) [ inl x ↦ inl (inl (inl x)) | inr x ↦ inr x ]
pairs-bound t v r k sort (p ∷ ps) o (inl (inr h)) = elim (occurs-bound t v r k p.1 sort o h) [ inl x ↦ inl (inl (inr x)) | inr x ↦ inr x ]
pairs-bound t v r k sort (p ∷ ps) o (inr h) = elim (pairs-bound t v r k sort ps o h) [ inl x ↦ inl (inr x) | inr x ↦ inr x ]

pub unified-binding : (s t : Store) (first left rest : List (ℕ × ℕ)) (v r : ℕ) → Unified s t first left → IsBinding t v r → ((σ : Solution) → Solves t σ → (SolvesPairs σ left → (σ v ≡ σ r) × SolvesPairs σ rest) × ((σ v ≡ σ r) × SolvesPairs σ rest → SolvesPairs σ left)) → OccursBefore t left ((v, r) ∷ rest) → AreCells t rest → ¬ OccursIn t v r → Unified s (with_binding v r t) first rest
unified-binding s t first left rest v r w b h before cells n = record {
  cells = pair_cells-more t (with_binding v r t) rest (length-bind v r t.cells) cells;
  down = λ σ k p.
      let a = w.down σ k p in
      let d = (h σ a.0).0 a.1 in
      (Solves-bound v r t σ b.sort b.open_cell b.same_sort a.0 d.0, d.1);
  up = λ σ k p.
      let a = Solves-unbound v r t σ b.sort b.open_cell k in
      w.up σ a.0 ((h σ a.0).1 (a.1, p));
  marks = KeepsMarks-both s t (with_binding v r t) w.marks (KeepsMarks-with_binding v r t w.sound.fits (may-bind t v r b n));
  binds = BindsOnly-both s t (with_binding v r t) w.binds (BindsOnly-with_binding v r t b.sort b.open_cell);
  sound = IsWellFormed-with_binding v r t w.sound (may-bind t v r b n);
  occurs = λ k o. w.occurs k (before k (elim (pairs-bound t v r k b.sort rest b.open_cell o) [ inl x ↦ inr x | inr x ↦ inl (inr x) ]));
  within = λ x k sort e f. elim (same_place v x) [
    | inl m ↦
        let at : slice_get (bind_at v r t.cells) v ≡ Some (variable b.sort (Some r)) = get-bound v r t.cells ∙ ap (option_map (bound_to r)) b.open_cell in
        let is : r ≡ k = let q : Some (variable b.sort (Some r)) ≡ Some (variable sort (Some k)) = sym at ∙ ap (slice_get (bind_at v r t.cells)) m ∙ f in cc in
        (subst (λ z. OccursInPairs s z first) m (w.occurs v (before v (inl (inl here)))), subst (λ z. OccursInPairs s z first) is (w.occurs r (before r (inl (inr here)))))
    | inr m ↦ w.within x k sort e (sym (get-unbound v r x t.cells m) ∙ f)
  ];
}

pub unified-done : (s t : Store) (first left : List (ℕ × ℕ)) → Unified s t first left → ((σ : Solution) → Solves t σ → SolvesPairs σ left) → SolvesAll s t first
unified-done s t first left w h σ = (λ k. w.up σ k (h σ k), λ p. (w.down σ p.0 p.1).0)

pub occurs-built : (s : Store) (v r : ℕ) (b : IsBinding s v r) → OccursIn s v r → is_variable b.end.0 ≡ false
occurs-built s v r b here = absurd (b.other refl)
occurs-built s v r b (in_part i {k = k} {c = c} e p o) = by b.end.0 b.end.2 (let q : c ≡ b.end.0 = let w : Some c ≡ Some b.end.0 = sym e ∙ b.end.1 in cc in ap (λ x. slice_get (parts_of x) i) (sym q) ∙ p)
  where
    by : (c : Cell) → is_bound c ≡ false → slice_get (parts_of c) i ≡ Some k → is_variable c ≡ false
    by (variable sort None) n p = absurd (cc)
    by (variable sort (Some q)) n p = absurd (false≢true (sym n))
    by (fun_cell f rs) n p = refl
    by (eigen_cell f rs) n p = refl
    by (new_cell f rs) n p = refl
    by (string_cell rs) n p = refl

-- where the variable occurs in the cell, nothing solves the pairs
pub unified-occurs : (s t : Store) (first left rest : List (ℕ × ℕ)) (v r : ℕ) → Unified s t first left → IsBinding t v r → ((σ : Solution) → Solves t σ → (SolvesPairs σ left → (σ v ≡ σ r) × SolvesPairs σ rest) × ((σ v ≡ σ r) × SolvesPairs σ rest → SolvesPairs σ left)) → OccursIn t v r → (σ : Solution) → Solves s σ → ¬ SolvesPairs σ first
unified-occurs s t first left rest v r w b h o σ k p =
    let a = w.down σ k p in
    occurs-apart t σ v r b.end.0 a.0 b.end.1 (occurs-built t v r b o) o b.other ((h σ a.0).0 a.1).0

-- what holds whatever the answer is
pub IfOk-always : {A E : Type 0} (r : Result A E) (P : A → Type 0) → ((x : A) → P x) → IfOk r P
IfOk-always (Ok x) P h = h x
IfOk-always (Err e) P h = tt

pub OnErr-always : {A E : Type 0} (r : Result A E) (P : Type 0) → P → OnErr r P
OnErr-always (Ok x) P h = tt
OnErr-always (Err e) P h = h
