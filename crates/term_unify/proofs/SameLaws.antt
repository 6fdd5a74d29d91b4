-- Whether the bindings make cells and labels the same: values of unbound variables tell where they do not.
use Rattle.std.proofs.Common.{◌≡◌, ℕ, zero, suc, ◌+◌, ◌<◌, ◌≤◌, List, [], ◌∷◌, drop, length, map, replicate, false, IsTrue, refl, sym, ◌∙◌, ap, ap₂, subst, Some, None, slice_get, inl, inr, arith, nat_lt, ltb-true}
use Rattle.std.specs.Option.{option_map_or}
use Rattle.std.proofs.lemmas.Bool.{false≢true}
use Rattle.std.proofs.lemmas.List.{length-map}
use Rattle.plain_laws.proofs.Every.{all-at}
use Rattle.plain_laws.proofs.Places.{drop-end, drop-there}
use Rattle.calculus.specs.declared.sort.Sort.{Sort}
use Rattle.calculus.specs.declared.sort.Sort.TheVariants.{TermSort, MarkSort, StringSort}
use Rattle.store_theory.specs.Bindings.{IsEnd, IsWellFormed}
use Rattle.calculus.specs.Ground.{GroundMark, g_fun, g_eigen, common, g_new_mark, g_spare_mark}
use Rattle.store_theory.specs.Stores.{Cell, variable, fun_cell, eigen_cell, new_cell, string_cell, Store, sort_of, is_bound, names_below, CellValue, a_term, a_mark, a_string, has_sort, Solution, Solves, CellHolds, cons_mark, marks_at}
use Rattle.store_theory.specs.Systems.{is_label}
use Rattle.store_theory.proofs.BindingLaws.{sorted_cell}
use Rattle.store_theory.proofs.SolutionLaws.{FitsOpen, solution_by, some_solution}
use Rattle.term_store.specs.RefView.{the_place}
use Rattle.term_store.specs.declared.cell.Ref.{Ref}
use Rattle.term_unify.specs.Steps.{AreDifferent}
use Rattle.search_theory.specs.States.{label_by}
use Rattle.search_theory.proofs.GeneralLaws.{mark-parts}
use Rattle.search_theory.proofs.GivingLaws.{length-marks}
use Rattle.search_theory.specs.MarkLists.{IsFlat}
use Rattle.search_theory.proofs.SolvingLaws.{label-there}
use Rattle.term_unify.specs.Same.{AreSameCells, AreSameLabels, DifferAt}

-- ---- cells

-- values that tell unbound variables apart, the strings by their lengths
abbrev letter : ℕ → ℕ → Sort → CellValue
letter k n TermSort = a_term (common n)
letter k n MarkSort = a_mark (g_spare_mark n)
letter k n StringSort = a_string (replicate (k + n) (g_spare_mark 0))

letter-sorted : (k n : ℕ) (sort : Sort) → IsTrue (has_sort sort (letter k n sort))
letter-sorted k n TermSort = refl
letter-sorted k n MarkSort = refl
letter-sorted k n StringSort = refl

sort_in : Store → ℕ → Sort
sort_in s n = option_map_or sort_of (slice_get s.cells n) TermSort

letters : ℕ → Store → Solution
letters k s n = letter k n (sort_in s n)

letters-fit : (k : ℕ) (s : Store) → FitsOpen s (letters k s)
unfolding letters sort_in
letters-fit k s n sort e = rw e (letter-sorted k n sort)

letters-at : (k : ℕ) (s : Store) (n : ℕ) (sort : Sort) → slice_get s.cells n ≡ Some (variable sort None) → letters k s n ≡ letter k n sort
unfolding letters sort_in
letters-at k s n sort e = ap (λ o. letter k n (option_map_or sort_of o TermSort)) e

replicate-length : (m n : ℕ) (x : GroundMark) → replicate m x ≡ replicate n x → m ≡ n
replicate-length zero zero x e = refl
replicate-length zero (suc n) x e = cc e
replicate-length (suc m) zero x e = cc e
replicate-length (suc m) (suc n) x e = let q : replicate m x ≡ replicate n x = cc e in ap suc (replicate-length m n x q)

letter-tells : (k v r : ℕ) (sort : Sort) → letter k v sort ≡ letter k r sort → v ≡ r
letter-tells k v r TermSort e = cc e
letter-tells k v r MarkSort e = cc e
letter-tells k v r StringSort e =
    let q : replicate (k + v) (g_spare_mark 0) ≡ replicate (k + r) (g_spare_mark 0) = cc e in
    let n = replicate-length (k + v) (k + r) (g_spare_mark 0) q in
    omega (arith, n)

length-replicate : (n : ℕ) (x : GroundMark) → length (replicate n x) ≡ n
length-replicate zero x = refl
length-replicate (suc n) x = ap suc (length-replicate n x)

-- how long the strings of a cell are
abbrev string_size : Cell → ℕ
string_size (string_cell rs) = suc (length rs)
string_size _ = 0

-- a built cell has another value than a variable by these letters
built-tells : (σ : Solution) (v r : ℕ) (sort : Sort) (c : Cell) → is_bound c ≡ false → ((x : Sort) → ¬ (c ≡ variable x None)) → CellHolds σ r c → ¬ (letter (string_size c) v sort ≡ σ r)
built-tells σ v r sort (variable x None) b n h e = n x refl
built-tells σ v r sort (variable x (Some k)) b n h e = false≢true (sym b)
built-tells σ v r TermSort (fun_cell f rs) b n h e = let q : a_term (common v) ≡ a_term (g_fun f h.0) = e ∙ h.2 in cc q
built-tells σ v r MarkSort (fun_cell f rs) b n h e = let q : a_mark (g_spare_mark v) ≡ a_term (g_fun f h.0) = e ∙ h.2 in cc q
built-tells σ v r StringSort (fun_cell f rs) b n h e = let q : a_string (replicate (0 + v) (g_spare_mark 0)) ≡ a_term (g_fun f h.0) = e ∙ h.2 in cc q
built-tells σ v r TermSort (eigen_cell f rs) b n h e = let q : a_term (common v) ≡ a_term (g_eigen f h.0) = e ∙ h.2 in cc q
built-tells σ v r MarkSort (eigen_cell f rs) b n h e = let q : a_mark (g_spare_mark v) ≡ a_term (g_eigen f h.0) = e ∙ h.2 in cc q
built-tells σ v r StringSort (eigen_cell f rs) b n h e = let q : a_string (replicate (0 + v) (g_spare_mark 0)) ≡ a_term (g_eigen f h.0) = e ∙ h.2 in cc q
built-tells σ v r TermSort (new_cell f rs) b n h e = let q : a_term (common v) ≡ a_mark (g_new_mark f h.0) = e ∙ h.2 in cc q
built-tells σ v r MarkSort (new_cell f rs) b n h e = let q : a_mark (g_spare_mark v) ≡ a_mark (g_new_mark f h.0) = e ∙ h.2 in cc q
built-tells σ v r StringSort (new_cell f rs) b n h e = let q : a_string (replicate (0 + v) (g_spare_mark 0)) ≡ a_mark (g_new_mark f h.0) = e ∙ h.2 in cc q
built-tells σ v r TermSort (string_cell rs) b n h e = let q : a_term (common v) ≡ a_string h.0 = e ∙ h.2 in cc q
built-tells σ v r MarkSort (string_cell rs) b n h e = let q : a_mark (g_spare_mark v) ≡ a_string h.0 = e ∙ h.2 in cc q
built-tells σ v r StringSort (string_cell rs) b n h e =
    let q : a_string (replicate (suc (length rs) + v) (g_spare_mark 0)) ≡ a_string h.0 = e ∙ h.2 in
    let same : replicate (suc (length rs) + v) (g_spare_mark 0) ≡ h.0 = cc q in
    let l = ap length same in
    let m = length-replicate (suc (length rs) + v) (g_spare_mark 0) in
    let k = length-marks σ rs h.0 h.1 in
    omega (arith, l, m, k)

-- two cells that the bindings do not make equal differ in some solution
pub different-cells : (s : Store) (a b : ℕ) → IsWellFormed s → AreDifferent s a b → ¬ ((σ : Solution) → Solves s σ → σ a ≡ σ b)
different-cells s a b w (inl never) same = let (σ, t) = some_solution s w.fits w.rank in never σ t (same σ t)
different-cells s a b w (inr (v, r, d)) same = by d.binding.end
  where
    forced : (σ : Solution) → Solves s σ → σ v ≡ σ r
    forced σ t = d.forces σ t (same σ t)

    chosen : (k : ℕ) → (σ : Solution) × Solves s σ × ((n : ℕ) (sort : Sort) → slice_get s.cells n ≡ Some (variable sort None) → σ n ≡ letters k s n)
    chosen k = solution_by s w.fits w.rank (letters k s) (letters-fit k s)

    left : (k : ℕ) → (chosen k).0 v ≡ letter k v d.binding.sort
    left k = (chosen k).2 v d.binding.sort d.binding.open_cell ∙ letters-at k s v d.binding.sort d.binding.open_cell

    unbound : (x : Sort) → slice_get s.cells r ≡ Some (variable x None) → ⊥
    unbound x e =
        let (σ, t, fits) = chosen 0 in
        let (c, f, q) = sorted_cell s d.binding.sort r d.binding.same_sort in
        let same_cell : c ≡ variable x None = let z : Some c ≡ Some (variable x None) = sym f ∙ e in cc z in
        let sort : x ≡ d.binding.sort = ap sort_of (sym same_cell) ∙ q in
        let right : σ r ≡ letter 0 r d.binding.sort = fits r x e ∙ letters-at 0 s r x e ∙ ap (letter 0 r) sort in
        d.binding.other (letter-tells 0 v r d.binding.sort (sym (left 0) ∙ forced σ t ∙ right))

    by : IsEnd s r → ⊥
    by (c, e, b) =
        let (σ, t, fits) = chosen (string_size c) in
        built-tells σ v r d.binding.sort c b (λ x q. unbound x (e ∙ ap Some q)) (t r c e) (sym (left (string_size c)) ∙ forced σ t)

-- ---- lists of cells

pub SameTo : Store → List ℕ → List ℕ → ℕ → Type 0
SameTo s xs ys i = (σ : Solution) → Solves s σ → map σ (drop i xs) ≡ map σ (drop i ys) → map σ xs ≡ map σ ys

pub same-start : (s : Store) (xs ys : List ℕ) → SameTo s xs ys 0
unfolding SameTo
same-start s xs ys σ t e = e

pub same-next : (s : Store) (xs ys : List ℕ) (i a b : ℕ) → SameTo s xs ys i → slice_get xs i ≡ Some a → slice_get ys i ≡ Some b → ((σ : Solution) → Solves s σ → σ a ≡ σ b) → SameTo s xs ys (i + 1)
unfolding SameTo
same-next s xs ys i a b h ea eb same σ t e =
    let more : i + 1 ≡ suc i = omega arith in
    h σ t (ap (map σ) (drop-there xs i a ea) ∙ ap₂ (λ v vs. v ∷ vs) (same σ t) (subst (λ n. map σ (drop n xs) ≡ map σ (drop n ys)) more e) ∙ sym (ap (map σ) (drop-there ys i b eb)))

pub same-cells : (s : Store) (xs ys : List ℕ) (i : ℕ) → SameTo s xs ys i → length xs ≤ i → length ys ≤ i → AreSameCells s xs ys
unfolding SameTo
same-cells s xs ys i h l m σ t = h σ t (ap (map σ) (drop-end xs i l) ∙ sym (ap (map σ) (drop-end ys i m)))

pub place-below : (n : ℕ) (xs : List ℕ) (i x : ℕ) → IsTrue (names_below n xs) → slice_get xs i ≡ Some x → x < n
place-below n xs i x h e = ltb-true x n (all-at (λ r. nat_lt r n) xs i x h e)

pub mapped-differ : (xs ys : List Ref) → ¬ (length xs ≡ length ys) → ¬ (length (map the_place xs) ≡ length (map the_place ys))
mapped-differ xs ys n e = n (sym (length-map xs the_place) ∙ e ∙ length-map ys the_place)

-- ---- labels

marks-same : (σ : Solution) (xs ys : List ℕ) → map σ xs ≡ map σ ys → marks_at σ xs ≡ marks_at σ ys
marks-same σ [] [] e = refl
marks-same σ [] (y ∷ ys) e = cc e
marks-same σ (x ∷ xs) [] e = cc e
marks-same σ (x ∷ xs) (y ∷ ys) e = let p : σ x ≡ σ y = cc e in let q : map σ xs ≡ map σ ys = cc e in ap₂ cons_mark p (marks-same σ xs ys q)

-- the label's marks are those of the flat list
pub label-marks : (s : Store) (ws ms : List ℕ) (σ : Solution) → Solves s σ → IsTrue (is_label s ws) → IsFlat s ws ms → marks_at σ ms ≡ Some (label_by σ ws)
label-marks s ws ms σ t h f = sym (f.same σ t) ∙ label-there s σ t ws h

pub labels-same : (s : Store) (ws vs ms ns : List ℕ) → IsTrue (is_label s ws) → IsTrue (is_label s vs) → IsFlat s ws ms → IsFlat s vs ns → AreSameCells s ms ns → AreSameLabels s ws vs
labels-same s ws vs ms ns hw hv f g same σ t =
    let e : Some (label_by σ ws) ≡ Some (label_by σ vs) = sym (label-marks s ws ms σ t hw f) ∙ marks-same σ ms ns (same σ t) ∙ label-marks s vs ns σ t hv g in
    cc e

marks-at : (σ : Solution) (ms ns : List ℕ) (w : List GroundMark) (i x y : ℕ) → marks_at σ ms ≡ Some w → marks_at σ ns ≡ Some w → slice_get ms i ≡ Some x → slice_get ns i ≡ Some y → σ x ≡ σ y
marks-at σ [] ns w i x y e f p q = cc p
marks-at σ (m ∷ ms) [] w i x y e f p q = cc q
marks-at σ (m ∷ ms) (n ∷ ns) w zero x y e f p q =
    let a = mark-parts σ m ms w e in
    let b = mark-parts σ n ns w f in
    let z : a.first ∷ a.rest ≡ b.first ∷ b.rest = sym a.all_of_them ∙ b.all_of_them in
    let first : a.first ≡ b.first = cc z in
    let left : m ≡ x = cc p in
    let right : n ≡ y = cc q in
    sym (ap σ left) ∙ a.is_first ∙ ap a_mark first ∙ sym b.is_first ∙ ap σ right
marks-at σ (m ∷ ms) (n ∷ ns) w (suc i) x y e f p q =
    let a = mark-parts σ m ms w e in
    let b = mark-parts σ n ns w f in
    let z : a.first ∷ a.rest ≡ b.first ∷ b.rest = sym a.all_of_them ∙ b.all_of_them in
    let rest : a.rest ≡ b.rest = cc z in
    marks-at σ ms ns a.rest i x y a.are_rest (b.are_rest ∙ ap Some (sym rest)) p q

pub labels-differ : (s : Store) (ws vs ms ns : List ℕ) → IsWellFormed s → IsTrue (is_label s ws) → IsTrue (is_label s vs) → IsFlat s ws ms → IsFlat s vs ns → DifferAt s ms ns → ¬ AreSameLabels s ws vs
labels-differ s ws vs ms ns w hw hv f g (inl n) same =
    let (σ, t) = some_solution s w.fits w.rank in
    n (sym (length-marks σ ms (label_by σ ws) (label-marks s ws ms σ t hw f)) ∙ ap length (same σ t) ∙ length-marks σ ns (label_by σ vs) (label-marks s vs ns σ t hv g))
labels-differ s ws vs ms ns w hw hv f g (inr (i, x, y, ex, ey, d)) same = different-cells s x y w d (λ σ t. marks-at σ ms ns (label_by σ ws) i x y (label-marks s ws ms σ t hw f) (label-marks s vs ns σ t hv g ∙ ap Some (sym (same σ t))) ex ey)
