-- Whether the bindings make goals the same.
use Rattle.std.proofs.Common.{◌≡◌, ℕ, zero, suc, ◌+◌, ◌≤◌, List, [], ◌∷◌, drop, length, map, true, false, IsTrue, refl, sym, ◌∙◌, ap, ap₂, subst, Some, slice_get, inl, inr, arith}
use Rattle.std.specs.List.{list_all, AllByRecursion}
use Rattle.std.proofs.lemmas.Bool.{false≢true, and_parts}
use Rattle.plain_laws.proofs.Places.{drop-end, drop-there}
use Rattle.plain_laws.proofs.Every.{all-at}
use Rattle.calculus.specs.declared.sign.Sign.{Sign}
use Rattle.calculus.specs.declared.sign.Sign.TheVariants.{T, F}
use Rattle.calculus.specs.declared.sort.Sort.TheVariants.{TermSort}
use Rattle.store_theory.specs.Bindings.{IsWellFormed}
use Rattle.calculus.specs.Equality.{sign_eq}
use Rattle.calculus.specs.Ground.{GroundLiteral, GroundTerms, no_g_terms, more_g_terms}
use Rattle.store_theory.specs.Stores.{Store, has_sort_at, names_below, Solution}
use Rattle.store_theory.specs.Systems.{CellAtom, Pair, is_cell_atom, is_label, is_pair}
use Rattle.store_theory.specs.Templates.{as_term}
use Rattle.store_theory.proofs.SolutionLaws.{some_solution}
use Rattle.search_theory.specs.Regular.{AreSame}
use Rattle.search_theory.specs.States.{terms_by}
use Rattle.search_theory.proofs.BuildingLaws.{solved-sorted}
use Rattle.search_theory.proofs.SolvingLaws.{all-below}
use Rattle.search_theory.proofs.UnifyLaws.{term-same}
use Rattle.term_unify.specs.Same.{AreSameCells, AreSameLabels, DifferAt}
use Rattle.term_unify.proofs.SameLaws.{different-cells}
use Rattle.prefix_split.specs.Same.{DifferNow, HaveSameAtom}

-- ---- atoms

terms-same : (σ : Solution) (xs ys : List ℕ) → map σ xs ≡ map σ ys → terms_by σ xs ≡ terms_by σ ys
terms-same σ [] [] e = refl
terms-same σ [] (y ∷ ys) e = cc e
terms-same σ (x ∷ xs) [] e = cc e
terms-same σ (x ∷ xs) (y ∷ ys) e = let p : σ x ≡ σ y = cc e in let q : map σ xs ≡ map σ ys = cc e in ap₂ (λ v ts. more_g_terms (as_term v) ts) p (terms-same σ xs ys q)

sign-equal : (x y : Sign) → sign_eq x y ≡ true → x ≡ y
sign-equal T T e = refl
sign-equal T F e = absurd (false≢true e)
sign-equal F T e = absurd (false≢true e)
sign-equal F F e = refl

sign-self : (x : Sign) → sign_eq x x ≡ true
sign-self T = refl
sign-self F = refl

pub atom-same : (s : Store) (a b : CellAtom) → sign_eq a.sign b.sign ≡ true → a.symbol ≡ b.symbol → AreSameCells s a.args b.args → HaveSameAtom s a b
atom-same s a b signs symbols args σ t labels =
    let p = sign-equal a.sign b.sign signs in
    let q = terms-same σ a.args b.args (args σ t) in
    λ i. record { sign = p i; symbol = symbols i; args = q i; label = labels i }

pub atoms-same : (s : Store) (a b : CellAtom) → HaveSameAtom s a b → AreSameLabels s a.label b.label → AreSame s a b
atoms-same s a b h labels σ t = h σ t (labels σ t)

pub signs-differ : (s : Store) (a b : CellAtom) → IsWellFormed s → sign_eq a.sign b.sign ≡ false → ¬ AreSame s a b
signs-differ s a b w e same =
    let (σ, t) = some_solution s w.fits w.rank in
    let q = ap (λ (l : GroundLiteral). l.sign) (same σ t) in
    false≢true (sym e ∙ ap (sign_eq a.sign) (sym q) ∙ sign-self a.sign)

pub symbols-differ : (s : Store) (a b : CellAtom) → IsWellFormed s → ¬ (a.symbol ≡ b.symbol) → ¬ AreSame s a b
symbols-differ s a b w n same =
    let (σ, t) = some_solution s w.fits w.rank in
    n (ap (λ (l : GroundLiteral). l.symbol) (same σ t))

terms-count : GroundTerms → ℕ
terms-count no_g_terms = 0
terms-count (more_g_terms t ts) = suc (terms-count ts)

terms-counted : (σ : Solution) (xs : List ℕ) → terms-count (terms_by σ xs) ≡ length xs
unfolding terms-count
terms-counted σ [] = refl
terms-counted σ (x ∷ xs) = ap suc (terms-counted σ xs)

terms-at : (σ : Solution) (xs ys : List ℕ) (i a b : ℕ) → terms_by σ xs ≡ terms_by σ ys → slice_get xs i ≡ Some a → slice_get ys i ≡ Some b → as_term (σ a) ≡ as_term (σ b)
terms-at σ [] ys i a b e ea eb = cc ea
terms-at σ (x ∷ xs) [] i a b e ea eb = cc eb
terms-at σ (x ∷ xs) (y ∷ ys) zero a b e ea eb =
    let p : x ≡ a = cc ea in
    let q : y ≡ b = cc eb in
    let r : as_term (σ x) ≡ as_term (σ y) = cc e in
    ap (λ z. as_term (σ z)) (sym p) ∙ r ∙ ap (λ z. as_term (σ z)) q
terms-at σ (x ∷ xs) (y ∷ ys) (suc i) a b e ea eb = let r : terms_by σ xs ≡ terms_by σ ys = cc e in terms-at σ xs ys i a b r ea eb

pub args-differ : (s : Store) (a b : CellAtom) → IsWellFormed s → IsTrue (is_cell_atom s a) → IsTrue (is_cell_atom s b) → DifferAt s a.args b.args → ¬ AreSame s a b
args-differ s a b w ha hb (inl n) same =
    let (σ, t) = some_solution s w.fits w.rank in
    n (sym (terms-counted σ a.args) ∙ ap terms-count (ap (λ (l : GroundLiteral). l.args) (same σ t)) ∙ terms-counted σ b.args)
args-differ s a b w ha hb (inr (i, x, y, ex, ey, d)) same =
    let sx = all-at (has_sort_at s TermSort) a.args i x (and_parts (list_all (has_sort_at s TermSort) a.args) (is_label s a.label) ha).0 ex in
    let sy = all-at (has_sort_at s TermSort) b.args i y (and_parts (list_all (has_sort_at s TermSort) b.args) (is_label s b.label) hb).0 ey in
    different-cells s x y w d (λ σ t. term-same (σ x) (σ y) (solved-sorted s σ t TermSort x sx) (solved-sorted s σ t TermSort y sy) (terms-at σ a.args b.args i x y (ap (λ (l : GroundLiteral). l.args) (same σ t)) ex ey))

pub labels-apart : (s : Store) (a b : CellAtom) → ¬ AreSameLabels s a.label b.label → ¬ AreSame s a b
labels-apart s a b n same = n (λ σ t. ap (λ (l : GroundLiteral). l.label) (same σ t))

pub args-below : (s : Store) (a : CellAtom) → IsTrue (is_cell_atom s a) → IsTrue (names_below (length s.cells) a.args)
args-below s a h = all-below s TermSort a.args (and_parts (list_all (has_sort_at s TermSort) a.args) (is_label s a.label) h).0

pub atom-label : (s : Store) (a : CellAtom) → IsTrue (is_cell_atom s a) → IsTrue (is_label s a.label)
atom-label s a h = (and_parts (list_all (has_sort_at s TermSort) a.args) (is_label s a.label) h).1

-- ---- pairs

pub ApartTo : Store → List Pair → ℕ → Type 0
ApartTo s ps i = AllByRecursion (DifferNow s) (drop i ps) → AllByRecursion (DifferNow s) ps

pub apart-start : (s : Store) (ps : List Pair) → ApartTo s ps 0
unfolding ApartTo
apart-start s ps h = h

pub apart-next : (s : Store) (ps : List Pair) (i : ℕ) (p : Pair) → ApartTo s ps i → slice_get ps i ≡ Some p → DifferNow s p → ApartTo s ps (i + 1)
unfolding ApartTo
apart-next s ps i p h e n k =
    let more : i + 1 ≡ suc i = omega arith in
    h (subst (AllByRecursion (DifferNow s)) (sym (drop-there ps i p e)) (n, subst (λ j. AllByRecursion (DifferNow s) (drop j ps)) more k))

pub apart-all : (s : Store) (ps : List Pair) (i : ℕ) → ApartTo s ps i → length ps ≤ i → AllByRecursion (DifferNow s) ps
unfolding ApartTo
apart-all s ps i h l = h (subst (AllByRecursion (DifferNow s)) (sym (drop-end ps i l)) tt)

pub pair-atoms : (s : Store) (ps : List Pair) (i : ℕ) (p : Pair) → IsTrue (list_all (is_pair s) ps) → slice_get ps i ≡ Some p → IsTrue (is_cell_atom s p.upper) × IsTrue (is_cell_atom s p.lower)
pair-atoms s ps i p h e = and_parts (is_cell_atom s p.upper) (is_cell_atom s p.lower) (all-at (is_pair s) ps i p h e)
