-- Whether the bindings make two atoms the same: what values that tell unbound variables apart say.
use Rattle.std.proofs.Common.{◌≡◌, ◌⊎◌, ◌<◌, ◌≤◌, ◌||◌, ℕ, zero, suc, List, [], ◌∷◌, ◌++◌, length, map, Bool, IsTrue, true, false, refl, sym, ◌∙◌, ap, ap₂, None, Some, slice_get, arith, nat_lt, ltb-true, inl, inr}
use Rattle.std.specs.List.{AllByRecursion, list_all}
use Rattle.std.proofs.lemmas.Bool.{and_parts, false≢true}
use Rattle.plain_laws.proofs.Every.{all-at}
use Rattle.search_theory.proofs.AtomLaws.{mark-value}
use Rattle.calculus.specs.declared.sort.Sort.TheVariants.{TermSort, MarkSort, StringSort}
use Rattle.calculus.specs.declared.sign.Sign.{Sign}
use Rattle.calculus.specs.declared.sign.Sign.TheVariants.{T, F}
use Rattle.calculus.specs.Equality.{sign_eq, sort_eq}
use Rattle.calculus.specs.Syntax.{Problem}
use Rattle.calculus.specs.Ground.{GroundLiteral, GroundMark, GroundTerms, g_spare_mark, more_g_terms, no_g_terms}
use Rattle.store_theory.specs.Bindings.{IsWellFormed}
use Rattle.store_theory.specs.Stores.{Cell, Solution, Solves, Store, a_mark, a_string, eigen_cell, fun_cell, has_sort_at, names_below, new_cell, parts_fit, sort_of, string_cell, variable}
use Rattle.store_theory.specs.Systems.{CellAtom, is_cell_atom, is_label}
use Rattle.store_theory.specs.Templates.{as_label, as_term}
use Rattle.store_theory.proofs.SolutionLaws.{some_solution}
use Rattle.search_theory.specs.States.{atom_is_below, label_by, terms_by}
use Rattle.search_theory.specs.Regular.{AreSame}
use Rattle.search_theory.specs.CellsIn.{IsAtomIn, IsPart}
use Rattle.search_theory.proofs.BuildingLaws.{solved-sorted}
use Rattle.search_theory.proofs.DistinctLaws.{distinct-same, not-string-mark}
use Rattle.search_theory.proofs.RankLaws.{rank_of}
use Rattle.search_theory.proofs.SpareLaws.{cell-fits, cell-sorted}
use Rattle.search_theory.proofs.UnifyLaws.{term-same}
use Rattle.term_unify.specs.Same.{AreSameCells, DifferAt}
use Rattle.term_unify.proofs.SameLaws.{different-cells}
use Rattle.search_tree.specs.OwnStores.{AreOwn, is_search_cell}
use Rattle.search_tree.proofs.DistinctStores.{letter_values, letters-tell, well-ranked}

pub place-below : (n : ℕ) (xs : List ℕ) (i x : ℕ) → IsTrue (names_below n xs) → slice_get xs i ≡ Some x → x < n
place-below n xs i x h e = ltb-true x n (all-at (λ r. nat_lt r n) xs i x h e)

pub args-below : (n : ℕ) (a : CellAtom) → IsTrue (atom_is_below n a) → IsTrue (names_below n a.args)
args-below n a h = (and_parts (names_below n a.args) (names_below n a.label) h).0

pub label-below : (n : ℕ) (a : CellAtom) → IsTrue (atom_is_below n a) → IsTrue (names_below n a.label)
label-below n a h = (and_parts (names_below n a.args) (names_below n a.label) h).1

-- ---- equal atoms

terms-same : (σ : Solution) (xs ys : List ℕ) → map σ xs ≡ map σ ys → terms_by σ xs ≡ terms_by σ ys
terms-same σ [] [] e = refl
terms-same σ [] (y ∷ ys) e = cc e
terms-same σ (x ∷ xs) [] e = cc e
terms-same σ (x ∷ xs) (y ∷ ys) e = let p : σ x ≡ σ y = cc e in let q : map σ xs ≡ map σ ys = cc e in ap₂ (λ v ts. more_g_terms (as_term v) ts) p (terms-same σ xs ys q)

places-same : (σ : Solution) (xs ys : List ℕ) → map σ xs ≡ map σ ys → label_by σ xs ≡ label_by σ ys
places-same σ [] [] e = refl
places-same σ [] (y ∷ ys) e = cc e
places-same σ (x ∷ xs) [] e = cc e
places-same σ (x ∷ xs) (y ∷ ys) e = let p : σ x ≡ σ y = cc e in let q : map σ xs ≡ map σ ys = cc e in ap₂ (λ v w. as_label v ++ w) p (places-same σ xs ys q)

pub sign-equal : (x y : Sign) → sign_eq x y ≡ true → x ≡ y
sign-equal T T e = refl
sign-equal T F e = absurd (false≢true e)
sign-equal F T e = absurd (false≢true e)
sign-equal F F e = refl

pub atoms-same : (s : Store) (a b : CellAtom) → sign_eq a.sign b.sign ≡ true → a.symbol ≡ b.symbol → AreSameCells s a.args b.args → AreSameCells s a.label b.label → AreSame s a b
atoms-same s a b signs symbols args labels σ t =
    let p = sign-equal a.sign b.sign signs in
    let q = terms-same σ a.args b.args (args σ t) in
    let r = places-same σ a.label b.label (labels σ t) in
    λ i. record { sign = p i; symbol = symbols i; args = q i; label = r i }

-- ---- atoms that differ

pub signs-differ : (s : Store) (a b : CellAtom) → IsWellFormed s → sign_eq a.sign b.sign ≡ false → ¬ AreSame s a b
signs-differ s a b w e same =
    let (σ, k) = some_solution s w.fits w.rank in
    let q = ap (λ (l : GroundLiteral). l.sign) (same σ k) in
    false≢true (sym e ∙ ap (sign_eq a.sign) (sym q) ∙ sign-self a.sign)
  where
    sign-self : (x : Sign) → sign_eq x x ≡ true
    sign-self T = refl
    sign-self F = refl

pub symbols-differ : (s : Store) (a b : CellAtom) → IsWellFormed s → ¬ (a.symbol ≡ b.symbol) → ¬ AreSame s a b
symbols-differ s a b w n same =
    let (σ, k) = some_solution s w.fits w.rank in
    n (ap (λ (l : GroundLiteral). l.symbol) (same σ k))

terms-count : GroundTerms → ℕ
terms-count no_g_terms = 0
terms-count (more_g_terms t ts) = suc (terms-count ts)

terms-counted : (σ : Solution) (xs : List ℕ) → terms-count (terms_by σ xs) ≡ length xs
unfolding terms-count
terms-counted σ [] = refl
terms-counted σ (x ∷ xs) = ap suc (terms-counted σ xs)

-- equal lists of terms have equal items
pub item-equal : (σ : Solution) (xs ys : List ℕ) (i a b : ℕ) → terms_by σ xs ≡ terms_by σ ys → slice_get xs i ≡ Some a → slice_get ys i ≡ Some b → as_term (σ a) ≡ as_term (σ b)
item-equal σ [] ys i a b e ea eb = let q : None ≡ Some a = ea in cc q
item-equal σ (x ∷ xs) [] i a b e ea eb = let q : None ≡ Some b = eb in cc q
item-equal σ (x ∷ xs) (y ∷ ys) zero a b e ea eb =
    let p : x ≡ a = cc ea in
    let q : y ≡ b = cc eb in
    let r : as_term (σ x) ≡ as_term (σ y) = cc e in
    ap (λ z. as_term (σ z)) (sym p) ∙ r ∙ ap (λ z. as_term (σ z)) q
item-equal σ (x ∷ xs) (y ∷ ys) (suc i) a b e ea eb = let r : terms_by σ xs ≡ terms_by σ ys = cc e in item-equal σ xs ys i a b r ea eb

atom-args : (s : Store) (a : CellAtom) → IsTrue (is_cell_atom s a) → IsTrue (list_all (has_sort_at s TermSort) a.args)
atom-args s a h = (and_parts (list_all (has_sort_at s TermSort) a.args) (is_label s a.label) h).0

pub args-differ : (s : Store) (a b : CellAtom) → IsWellFormed s → IsTrue (is_cell_atom s a) → IsTrue (is_cell_atom s b) → DifferAt s a.args b.args → ¬ AreSame s a b
args-differ s a b w ha hb (inl n) same =
    let (σ, k) = some_solution s w.fits w.rank in
    n (sym (terms-counted σ a.args) ∙ ap terms-count (ap (λ (l : GroundLiteral). l.args) (same σ k)) ∙ terms-counted σ b.args)
args-differ s a b w ha hb (inr (i, x, y, ex, ey, d)) same =
    let sx = all-at (has_sort_at s TermSort) a.args i x (atom-args s a ha) ex in
    let sy = all-at (has_sort_at s TermSort) b.args i y (atom-args s b hb) ey in
    different-cells s x y w d (λ σ k. term-same (σ x) (σ y) (solved-sorted s σ k TermSort x sx) (solved-sorted s σ k TermSort y sy) (item-equal σ a.args b.args i x y (ap (λ (l : GroundLiteral). l.args) (same σ k)) ex ey))

-- ---- places of labels

-- the string has the value of an unbound one
abbrev IsOpenEnd : Store → ℕ → Type 0
IsOpenEnd s r = (v : ℕ) × (slice_get s.cells v ≡ Some (variable StringSort None)) × (letter_values s r ≡ letter_values s v)

-- no string of the search is built, so the bindings of each end at an unbound one
string-end : (P : Problem) (base : ℕ) (s : Store) → IsWellFormed s → AreOwn P base s → (n r : ℕ) (c : Cell) → rank_of s r < n → base ≤ r → slice_get s.cells r ≡ Some c → IsTrue (sort_eq StringSort (sort_of c)) → IsOpenEnd s r
string-end P base s w owns zero r c l b e t = absurd (omega (arith, l))
string-end P base s w owns (suc n) r c l b e t = by c e t (cell-fits s w.fits r c e) (owns.cells r c b e) (λ k d m g x v. string-end P base s w owns n k d m g x v)
  where
    by : (d : Cell) → slice_get s.cells r ≡ Some d → IsTrue (sort_eq StringSort (sort_of d)) → IsTrue (parts_fit s d) → IsTrue (is_search_cell P d) → ((k : ℕ) (x : Cell) → rank_of s k < n → base ≤ k → slice_get s.cells k ≡ Some x → IsTrue (sort_eq StringSort (sort_of x)) → IsOpenEnd s k) → IsOpenEnd s r
    by (variable TermSort b') g v f q ih = absurd (false≢true v)
    by (variable MarkSort b') g v f q ih = absurd (false≢true v)
    by (variable StringSort None) g v f q ih = (r, g, refl)
    by (variable StringSort (Some k)) g v f q ih =
        let p = cell-sorted s StringSort k f in
        let fall = (well-ranked s w).falls r k (variable StringSort (Some k)) g (0, refl) in
        let m = ih k p.0 (omega (arith, l, fall)) (owns.labelled.names r k 0 (variable StringSort (Some k)) b g refl) p.1 p.2 in
        (m.0, m.1, ((letters-tell s w).solves r (variable StringSort (Some k)) g).1 ∙ m.2)
    by (fun_cell x rs) g v f q ih = absurd (false≢true v)
    by (eigen_cell x rs) g v f q ih = absurd (false≢true v)
    by (new_cell x rs) g v f q ih = absurd (false≢true v)
    by (string_cell rs) g v f q ih = absurd (false≢true q)

-- a mark, or a string of one character
abbrev IsCharacter : Store → ℕ → Type 0
IsCharacter s r = (IsTrue (has_sort_at s MarkSort r) × (m : GroundMark) × (letter_values s r ≡ a_mark m)) ⊎ (IsTrue (has_sort_at s StringSort r) × (v : ℕ) × (slice_get s.cells v ≡ Some (variable StringSort None)) × (letter_values s r ≡ a_string (g_spare_mark v ∷ [])))

is-character : (P : Problem) (base : ℕ) (s : Store) → IsWellFormed s → AreOwn P base s → (r : ℕ) → base ≤ r → IsTrue (has_sort_at s MarkSort r || has_sort_at s StringSort r) → IsCharacter s r
is-character P base s w owns r l h = by (has_sort_at s MarkSort r) refl h
  where
    by : (t : Bool) → has_sort_at s MarkSort r ≡ t → IsTrue (t || has_sort_at s StringSort r) → IsCharacter s r
    by true e k = let m = mark-value (letter_values s r) (solved-sorted s (letter_values s) (letters-tell s w).solves MarkSort r e) in inl (e, m.0, m.1)
    by false e k =
        let c = cell-sorted s StringSort r k in
        let (v, at, same) = string-end P base s w owns (suc (rank_of s r)) r c.0 (omega arith) l c.1 c.2 in
        inr (k, v, at, same ∙ (letters-tell s w).spares v StringSort tt at)

are-characters : (P : Problem) (base : ℕ) (s : Store) → IsWellFormed s → AreOwn P base s → (rs : List ℕ) → ((k : ℕ) → IsPart k rs → base ≤ k) → IsTrue (is_label s rs) → AllByRecursion (IsCharacter s) rs
are-characters P base s w owns [] i h = tt
are-characters P base s w owns (r ∷ rs) i h =
    let p = and_parts (has_sort_at s MarkSort r || has_sort_at s StringSort r) (is_label s rs) h in
    (is-character P base s w owns r (i r (0, refl)) p.0, are-characters P base s w owns rs (λ k q. i k (suc q.0, q.1)) p.1)

character : (s : Store) (r : ℕ) → IsCharacter s r → (m : GroundMark) × (as_label (letter_values s r) ≡ m ∷ [])
character s r (inl (h, m, e)) = (m, ap as_label e)
character s r (inr (h, v, at, e)) = (g_spare_mark v, ap as_label e)

-- no mark is the character of an unbound string
mark-apart : (s : Store) → IsWellFormed s → (r v : ℕ) (m : GroundMark) → IsTrue (has_sort_at s MarkSort r) → letter_values s r ≡ a_mark m → slice_get s.cells v ≡ Some (variable StringSort None) → ¬ (m ≡ g_spare_mark v)
mark-apart s w r v m h e at q =
    let c = cell-sorted s MarkSort r h in
    not-string-mark (λ k. Unit {0}) s (rank_of s) (suc (length s.cells)) (letter_values s) (λ k. k) w.fits (well-ranked s w) (letters-tell s w) v r c.0 tt tt at c.1 (e ∙ ap a_mark q)

-- places with one character are equal by each solution
place-equal : (s : Store) → IsWellFormed s → (x y : ℕ) → IsCharacter s x → IsCharacter s y → as_label (letter_values s x) ≡ as_label (letter_values s y) → (τ : Solution) → Solves s τ → τ x ≡ τ y
place-equal s w x y (inl (h, m, e)) (inl (k, n, f)) q τ t =
    let z : m ∷ [] ≡ n ∷ [] = sym (ap as_label e) ∙ q ∙ ap as_label f in
    let same : m ≡ n = cc z in
    distinct-same (λ r. Unit {0}) s (rank_of s) (suc (length s.cells)) (letter_values s) (λ r. r) w.fits (well-ranked s w) (letters-tell s w) τ t MarkSort x y tt tt h k (e ∙ ap a_mark same ∙ sym f)
place-equal s w x y (inl (h, m, e)) (inr (k, v, at, f)) q τ t =
    let z : m ∷ [] ≡ g_spare_mark v ∷ [] = sym (ap as_label e) ∙ q ∙ ap as_label f in
    let same : m ≡ g_spare_mark v = cc z in
    absurd (mark-apart s w x v m h e at same)
place-equal s w x y (inr (h, v, at, e)) (inl (k, n, f)) q τ t =
    let z : n ∷ [] ≡ g_spare_mark v ∷ [] = sym (ap as_label f) ∙ sym q ∙ ap as_label e in
    let same : n ≡ g_spare_mark v = cc z in
    absurd (mark-apart s w y v n k f at same)
place-equal s w x y (inr (h, v, at, e)) (inr (k, u, on, f)) q τ t =
    let z : g_spare_mark v ∷ [] ≡ g_spare_mark u ∷ [] = sym (ap as_label e) ∙ q ∙ ap as_label f in
    distinct-same (λ r. Unit {0}) s (rank_of s) (suc (length s.cells)) (letter_values s) (λ r. r) w.fits (well-ranked s w) (letters-tell s w) τ t StringSort x y tt tt h k (e ∙ ap a_string z ∙ sym f)

-- equal labels begin with equal characters
label-rest : (s : Store) (x y : ℕ) (xs ys : List ℕ) → IsCharacter s x → IsCharacter s y → label_by (letter_values s) (x ∷ xs) ≡ label_by (letter_values s) (y ∷ ys) → (as_label (letter_values s x) ≡ as_label (letter_values s y)) × (label_by (letter_values s) xs ≡ label_by (letter_values s) ys)
label-rest s x y xs ys i j e =
    let m = character s x i in
    let n = character s y j in
    let z : m.0 ∷ label_by (letter_values s) xs ≡ n.0 ∷ label_by (letter_values s) ys = sym (ap (λ v. v ++ label_by (letter_values s) xs) m.1) ∙ e ∙ ap (λ v. v ++ label_by (letter_values s) ys) n.1 in
    let first : m.0 ≡ n.0 = cc z in
    let rest : label_by (letter_values s) xs ≡ label_by (letter_values s) ys = cc z in
    (m.1 ∙ ap (λ k. k ∷ []) first ∙ sym n.1, rest)

labels-length : (s : Store) (xs ys : List ℕ) → AllByRecursion (IsCharacter s) xs → AllByRecursion (IsCharacter s) ys → label_by (letter_values s) xs ≡ label_by (letter_values s) ys → length xs ≡ length ys
labels-length s [] [] i j e = refl
labels-length s [] (y ∷ ys) i j e = let m = character s y j.0 in let z : [] ≡ m.0 ∷ label_by (letter_values s) ys = e ∙ ap (λ v. v ++ label_by (letter_values s) ys) m.1 in cc z
labels-length s (x ∷ xs) [] i j e = let m = character s x i.0 in let z : m.0 ∷ label_by (letter_values s) xs ≡ [] = sym (ap (λ v. v ++ label_by (letter_values s) xs) m.1) ∙ e in cc z
labels-length s (x ∷ xs) (y ∷ ys) i j e = ap suc (labels-length s xs ys i.1 j.1 (label-rest s x y xs ys i.0 j.0 e).1)

labels-at : (s : Store) → IsWellFormed s → (xs ys : List ℕ) (i x y : ℕ) → AllByRecursion (IsCharacter s) xs → AllByRecursion (IsCharacter s) ys → label_by (letter_values s) xs ≡ label_by (letter_values s) ys → slice_get xs i ≡ Some x → slice_get ys i ≡ Some y → (τ : Solution) → Solves s τ → τ x ≡ τ y
labels-at s w [] ys i x y h k e ex ey τ t = let q : None ≡ Some x = ex in cc q
labels-at s w (a ∷ xs) [] i x y h k e ex ey τ t = let q : None ≡ Some y = ey in cc q
labels-at s w (a ∷ xs) (b ∷ ys) zero x y h k e ex ey τ t =
    let p : a ≡ x = cc ex in
    let q : b ≡ y = cc ey in
    ap τ (sym p) ∙ place-equal s w a b h.0 k.0 (label-rest s a b xs ys h.0 k.0 e).0 τ t ∙ ap τ q
labels-at s w (a ∷ xs) (b ∷ ys) (suc i) x y h k e ex ey τ t = labels-at s w xs ys i x y h.1 k.1 (label-rest s a b xs ys h.0 k.0 e).1 ex ey τ t

atom-characters : (P : Problem) (base : ℕ) (s : Store) (a : CellAtom) → IsWellFormed s → AreOwn P base s → IsAtomIn (λ r. base ≤ r) s a → AllByRecursion (IsCharacter s) a.label
atom-characters P base s a w owns h = are-characters P base s w owns a.label h.label (and_parts (list_all (has_sort_at s TermSort) a.args) (is_label s a.label) h.sorted).1

pub labels-differ : (P : Problem) (base : ℕ) (s : Store) (a b : CellAtom) → IsWellFormed s → AreOwn P base s → IsAtomIn (λ r. base ≤ r) s a → IsAtomIn (λ r. base ≤ r) s b → DifferAt s a.label b.label → ¬ AreSame s a b
labels-differ P base s a b w owns ha hb d same = by d
  where
    equal : label_by (letter_values s) a.label ≡ label_by (letter_values s) b.label
    equal = ap (λ (l : GroundLiteral). l.label) (same (letter_values s) (letters-tell s w).solves)

    by : DifferAt s a.label b.label → ⊥
    by (inl n) = n (labels-length s a.label b.label (atom-characters P base s a w owns ha) (atom-characters P base s b w owns hb) equal)
    by (inr (i, x, y, ex, ey, differ)) = different-cells s x y w differ (labels-at s w a.label b.label i x y (atom-characters P base s a w owns ha) (atom-characters P base s b w owns hb) equal ex ey)
