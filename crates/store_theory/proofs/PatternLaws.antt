-- Patterns and their copies in a store that grows.
use Rattle.std.proofs.Common.{◌&&◌, ◌+◌, ◌++◌, Some, ◌||◌, ◌≡◌, ℕ, zero, suc, List, [], ◌∷◌, length, Bool, true, false, None, IsTrue, refl, sym, ◌∙◌, ap, arith, append_assoc, length-append, option_map}
use Rattle.std.specs.List.{list_all}
use Rattle.std.specs.Prelude.{slice_get}
use Rattle.std.proofs.lemmas.Bool.{false≢true}
use Rattle.plain_laws.proofs.Places.{get-end, get-front}
use Rattle.calculus.specs.declared.sort.Sort.{Sort}
use Rattle.calculus.specs.declared.sort.Sort.TheVariants.{TermSort, MarkSort, StringSort}
use Rattle.store_theory.specs.Stores.{Cell, variable, fun_cell, eigen_cell, new_cell, Store, sort_of, has_sort_at, GammaCell}
use Rattle.store_theory.specs.Systems.{CellAtom, is_label, is_cell_atom, is_gamma_cell}
use Rattle.store_theory.specs.Bindings.{with_cell, with_variables_of, places_from, AddsBuilt, nothing_more, one_more, KeepsMarks}
use Rattle.store_theory.specs.Patterns.{Pattern, Patterns, p_var, p_fun, p_eigen, p_new, no_patterns, more_patterns, patterns_tree, IsCopy, AreCopies, Grows, PatternAtom, PatternGamma, IsAtomCopy, IsGammaCopy, AreAtomCopies, AreGammaCopies, HaveSortsAt}
use Rattle.calculus.proofs.PlaceLists.{all-more}
use Rattle.store_theory.proofs.BindingLaws.{sorted_cell, has_sort-from, or-more, KeepsMarks-same, KeepsMarks-both, KeepsMarks-with_cell}

pub Grows-same : (s : Store) → Grows s s
Grows-same s = ([], sym (append_none s.cells), refl)
  where
    append_none : (xs : List Cell) → xs ++ [] ≡ xs
    append_none [] = refl
    append_none (x ∷ xs) = ap (λ ys. x ∷ ys) (append_none xs)

pub Grows-both : (s t u : Store) → Grows s t → Grows t u → Grows s u
Grows-both s t u (m, e, f) (n, g, h) = (m ++ n, g ∙ ap (λ cs. cs ++ n) e ∙ append_assoc s.cells m n, h ∙ f)

pub Grows-with_cell : (c : Cell) (s : Store) → Grows s (with_cell c s)
Grows-with_cell c s = (c ∷ [], refl, refl)

pub grown-cell : (s t : Store) (n : ℕ) (c : Cell) → Grows s t → slice_get s.cells n ≡ Some c → slice_get t.cells n ≡ Some c
grown-cell s t n c (m, e, f) h = ap (λ cs. slice_get cs n) e ∙ get-front s.cells m n c h

pub grown-sort : (s t : Store) (sort : Sort) (n : ℕ) → Grows s t → IsTrue (has_sort_at s sort n) → IsTrue (has_sort_at t sort n)
grown-sort s t sort n g h = let w = sorted_cell s sort n h in has_sort-from t sort n w.0 (grown-cell s t n w.0 g w.1) w.2

-- ---- built cells that came one by one

pub AddsBuilt-both : (s t u : Store) → AddsBuilt s t → AddsBuilt t u → AddsBuilt s u
AddsBuilt-both s t u nothing_more k = k
AddsBuilt-both s t u (one_more c i f b more) k = one_more c i f b (AddsBuilt-both (with_cell c s) t u more k)

pub Grows-built : (s t : Store) → AddsBuilt s t → Grows s t
Grows-built s t nothing_more = Grows-same s
Grows-built s t (one_more c i f b more) = Grows-both s (with_cell c s) t (Grows-with_cell c s) (Grows-built (with_cell c s) t more)

pub KeepsMarks-built : (s t : Store) → AddsBuilt s t → KeepsMarks s t
KeepsMarks-built s t nothing_more = KeepsMarks-same s
KeepsMarks-built s t (one_more c i f b more) = KeepsMarks-both s (with_cell c s) t (KeepsMarks-with_cell c s) (KeepsMarks-built (with_cell c s) t more)

-- ---- variables of a template

pub Grows-variables : (sorts : List Sort) (s : Store) → Grows s (with_variables_of sorts s)
Grows-variables [] s = Grows-same s
Grows-variables (sort ∷ sorts) s = Grows-both s (with_cell (variable sort None) s) (with_variables_of sorts (with_cell (variable sort None) s)) (Grows-with_cell (variable sort None) s) (Grows-variables sorts (with_cell (variable sort None) s))

pub length-variables : (sorts : List Sort) (s : Store) → length (with_variables_of sorts s).cells ≡ length s.cells + length sorts
length-variables [] s = omega arith
length-variables (sort ∷ sorts) s = let h = length-variables sorts (with_cell (variable sort None) s) in let e = length-append s.cells (variable sort None ∷ []) in omega (arith, h, e)

pub length-places : (n k : ℕ) → length (places_from n k) ≡ k
length-places n zero = refl
length-places n (suc k) = ap suc (length-places (suc n) k)

-- the variables have their sorts, and keep them
pub variables-have : (sorts : List Sort) (s : Store) (n : ℕ) → n ≡ length s.cells → HaveSortsAt (with_variables_of sorts s) sorts (places_from n (length sorts))
variables-have [] s n e = refl
variables-have (sort ∷ sorts) s n e =
    let c = variable sort None in
    let t = with_cell c s in
    let long = length-append s.cells (c ∷ []) in
    let at : slice_get t.cells n ≡ Some c = ap (slice_get t.cells) e ∙ get-end s.cells c in
    (n, places_from (suc n) (length sorts), refl, ap (option_map sort_of) (grown-cell t (with_variables_of sorts t) n c (Grows-variables sorts t) at), variables-have sorts t (suc n) (omega (arith, e, long)))

pub and-more : (p q r : Bool) → (q ≡ true → r ≡ true) → (p && q) ≡ true → (p && r) ≡ true
and-more true q r h e = h e
and-more false q r h e = e

pub and-both : (p q r t : Bool) → (p ≡ true → q ≡ true) → (r ≡ true → t ≡ true) → (p && r) ≡ true → (q && t) ≡ true
and-both true q r t h k e = rw (h refl) (k e)
and-both false q r t h k e = absurd (false≢true e)

mutual
  pub grown-copy : (s t : Store) (vs : List ℕ) (p : Pattern) (r : ℕ) → Grows s t → IsCopy s vs p r → IsCopy t vs p r
  grown-copy s t vs (p_var k) r g h = h
  grown-copy s t vs (p_fun f ps) r g (rs, e, h) = (rs, grown-cell s t r (fun_cell f rs) g e, grown-copies s t vs ps rs g h)
  grown-copy s t vs (p_eigen f ps) r g (rs, e, h) = (rs, grown-cell s t r (eigen_cell f rs) g e, grown-copies s t vs ps rs g h)
  grown-copy s t vs (p_new f ps) r g (rs, e, h) = (rs, grown-cell s t r (new_cell f rs) g e, grown-copies s t vs ps rs g h)

  pub grown-copies : (s t : Store) (vs : List ℕ) (ps : Patterns) (rs : List ℕ) → Grows s t → AreCopies s vs ps rs → AreCopies t vs ps rs
  grown-copies s t vs no_patterns rs g h = h
  grown-copies s t vs (more_patterns p ps) rs g (r, qs, e, h, k) = (r, qs, e, grown-copy s t vs p r g h, grown-copies s t vs ps qs g k)

pub copies-more : (s : Store) (vs : List ℕ) (ps : List Pattern) (p : Pattern) (rs : List ℕ) (r : ℕ) → AreCopies s vs (patterns_tree ps) rs → IsCopy s vs p r → AreCopies s vs (patterns_tree (ps ++ p ∷ [])) (rs ++ r ∷ [])
copies-more s vs [] p rs r h k = (r, [], ap (λ xs. xs ++ r ∷ []) h, k, refl)
copies-more s vs (q ∷ ps) p rs r (x, xs, e, h, t) k = (x, xs ++ r ∷ [], ap (λ ys. ys ++ r ∷ []) e, h, copies-more s vs ps p xs r t k)

-- ---- clauses

pub grown-atom : (s t : Store) (vs : List ℕ) (a : PatternAtom) (c : CellAtom) → Grows s t → IsAtomCopy s vs a c → IsAtomCopy t vs a c
grown-atom s t vs a c g h = record { sign = h.sign; symbol = h.symbol; args = grown-copies s t vs (patterns_tree a.args) c.args g h.args; label = grown-copies s t vs (patterns_tree a.label) c.label g h.label }

pub grown-gamma : (s t : Store) (vs : List ℕ) (a : PatternGamma) (c : GammaCell) → Grows s t → IsGammaCopy s vs a c → IsGammaCopy t vs a c
grown-gamma s t vs a c g h = record { term = grown-copy s t vs a.term c.term g h.term; label = grown-copies s t vs (patterns_tree a.label) c.label g h.label }

pub grown-atoms : (s t : Store) (vs : List ℕ) (xs : List PatternAtom) (cs : List CellAtom) → Grows s t → AreAtomCopies s vs xs cs → AreAtomCopies t vs xs cs
grown-atoms s t vs [] cs g h = h
grown-atoms s t vs (a ∷ xs) cs g (c, ds, e, h, k) = (c, ds, e, grown-atom s t vs a c g h, grown-atoms s t vs xs ds g k)

pub grown-gammas : (s t : Store) (vs : List ℕ) (xs : List PatternGamma) (cs : List GammaCell) → Grows s t → AreGammaCopies s vs xs cs → AreGammaCopies t vs xs cs
grown-gammas s t vs [] cs g h = h
grown-gammas s t vs (a ∷ xs) cs g (c, ds, e, h, k) = (c, ds, e, grown-gamma s t vs a c g h, grown-gammas s t vs xs ds g k)

pub atoms-more : (s : Store) (vs : List ℕ) (xs : List PatternAtom) (a : PatternAtom) (cs : List CellAtom) (c : CellAtom) → AreAtomCopies s vs xs cs → IsAtomCopy s vs a c → AreAtomCopies s vs (xs ++ a ∷ []) (cs ++ c ∷ [])
atoms-more s vs [] a cs c h k = (c, [], ap (λ zs. zs ++ c ∷ []) h, k, refl)
atoms-more s vs (b ∷ xs) a cs c (d, ds, e, h, t) k = (d, ds ++ c ∷ [], ap (λ zs. zs ++ c ∷ []) e, h, atoms-more s vs xs a ds c t k)

pub gammas-more : (s : Store) (vs : List ℕ) (xs : List PatternGamma) (a : PatternGamma) (cs : List GammaCell) (c : GammaCell) → AreGammaCopies s vs xs cs → IsGammaCopy s vs a c → AreGammaCopies s vs (xs ++ a ∷ []) (cs ++ c ∷ [])
gammas-more s vs [] a cs c h k = (c, [], ap (λ zs. zs ++ c ∷ []) h, k, refl)
gammas-more s vs (b ∷ xs) a cs c (d, ds, e, h, t) k = (d, ds ++ c ∷ [], ap (λ zs. zs ++ c ∷ []) e, h, gammas-more s vs xs a ds c t k)

pub grown-label : (s t : Store) (rs : List ℕ) → Grows s t → IsTrue (is_label s rs) → IsTrue (is_label t rs)
grown-label s t rs g h = all-more (λ r. has_sort_at s MarkSort r || has_sort_at s StringSort r) (λ r. has_sort_at t MarkSort r || has_sort_at t StringSort r) rs (λ r. or-more (has_sort_at s MarkSort r) (has_sort_at t MarkSort r) (has_sort_at s StringSort r) (has_sort_at t StringSort r) (grown-sort s t MarkSort r g) (grown-sort s t StringSort r g)) h

pub grown-sorts : (s t : Store) (b : Sort) (rs : List ℕ) → Grows s t → IsTrue (list_all (has_sort_at s b) rs) → IsTrue (list_all (has_sort_at t b) rs)
grown-sorts s t b rs g h = all-more (has_sort_at s b) (has_sort_at t b) rs (λ r. grown-sort s t b r g) h

pub grown-cell_atom : (s t : Store) (c : CellAtom) → Grows s t → IsTrue (is_cell_atom s c) → IsTrue (is_cell_atom t c)
grown-cell_atom s t c g h = and-both (list_all (has_sort_at s TermSort) c.args) (list_all (has_sort_at t TermSort) c.args) (is_label s c.label) (is_label t c.label) (grown-sorts s t TermSort c.args g) (grown-label s t c.label g) h

pub grown-gamma_cell : (s t : Store) (c : GammaCell) → Grows s t → IsTrue (is_gamma_cell s c) → IsTrue (is_gamma_cell t c)
grown-gamma_cell s t c g h = and-both (has_sort_at s TermSort c.term) (has_sort_at t TermSort c.term) (is_label s c.label) (is_label t c.label) (grown-sort s t TermSort c.term g) (grown-label s t c.label g) h

pub grown-cell_atoms : (s t : Store) (cs : List CellAtom) → Grows s t → IsTrue (list_all (is_cell_atom s) cs) → IsTrue (list_all (is_cell_atom t) cs)
grown-cell_atoms s t cs g h = all-more (is_cell_atom s) (is_cell_atom t) cs (λ c. grown-cell_atom s t c g) h

pub grown-gamma_cells : (s t : Store) (cs : List GammaCell) → Grows s t → IsTrue (list_all (is_gamma_cell s) cs) → IsTrue (list_all (is_gamma_cell t) cs)
grown-gamma_cells s t cs g h = all-more (is_gamma_cell s) (is_gamma_cell t) cs (λ c. grown-gamma_cell s t c g) h
