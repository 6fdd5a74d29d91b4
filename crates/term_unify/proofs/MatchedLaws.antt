-- The loops that match one pattern after the other.
use Rattle.std.proofs.Common.{◌≡◌, ◌+◌, ◌<◌, ◌∷◌, [], ℕ, zero, suc, List, length, true, false, Some, option_map, slice_get, IsTrue, sym, ◌∙◌, ap, subst, arith, inl, inr, nat_le, leb-true}
use Rattle.std.specs.List.{list_all}
use Rattle.std.specs.Option.{option_map_or}
use Rattle.std.proofs.lemmas.Bool.{false≢true, and_parts}
use Rattle.plain_laws.proofs.Every.{all-at}
use Rattle.plain_laws.proofs.Options.{same-some}
use Rattle.calculus.specs.declared.sort.Sort.{Sort}
use Rattle.calculus.specs.Equality.{sort_eq}
use Rattle.store_theory.specs.Bindings.{EndsIn, IsEnd, IsWellFormed, KeepsMarks, is_variable}
use Rattle.store_theory.specs.Patterns.{HaveSortsAt, Pattern, patterns_tree}
use Rattle.store_theory.specs.Stores.{Cell, Store, is_bound, is_store, parts_of, sort_at, sort_of, has_value_sort_at}
use Rattle.store_theory.proofs.BindingLaws.{KeepsMarks-both, KeepsMarks-same, kept, parts-within, sort_eq-same, sorted_cell}
use Rattle.store_theory.proofs.PatternLaws.{Grows-built, grown-cell}
use Rattle.term_store.specs.Fitting.{fits_in}
use Rattle.term_store.specs.Signatures.{BuildsOver, Signature, allows, allows_all}
use Rattle.term_unify.specs.Matching.{AddsAndBinds, AllNamesKept, ArePartsAt, HoldsNowhere, MatchTo, Matches, NamesKept, Narrows, StandsBuilt}
use Rattle.term_unify.proofs.MatchCells.{SortsStay, adds-both, adds-longer_both, adds-none, fits-stay, sorts-stay, unbound, value-below, values-stay}
use Rattle.term_unify.proofs.MatchLaws.{narrows-more, narrows-none, narrows-same, nowhere-later}
use Rattle.term_unify.proofs.PairLaws.{part-among, told}

-- the first n cells are matched
pub record MatchedTo (old cur : Store) (vs rs : List ℕ) (ps : List Pattern) (n : ℕ) : Type 0 where
  pub met : Narrows (MatchTo vs rs ps n) old cur
  pub cells : AddsAndBinds old cur
  pub names : AllNamesKept vs rs old cur
  pub within : BuildsOver vs (λ sorts g. allows_all g sorts (patterns_tree ps)) old cur
  pub marks : KeepsMarks old cur

pub matched-none : (s : Store) (vs rs : List ℕ) (ps : List Pattern) → MatchedTo s s vs rs ps 0
matched-none s vs rs ps = record {
  met = narrows-none s vs rs ps;
  cells = adds-none s;
  names = λ base l h k n. n;
  within = λ sorts have g base h k. k;
  marks = KeepsMarks-same s;
}

-- ---- sorts of variables

sort-stays : (s t : Store) → SortsStay s t → (sort : Sort) (r : ℕ) → sort_at s r ≡ Some sort → sort_at t r ≡ Some sort
sort-stays s t h sort r e =
    let (c, at, is) = sorted_cell t sort r (h sort r (ap (λ o. option_map_or (sort_eq sort) o false) e ∙ sort_eq-same sort)) in
    ap (option_map sort_of) at ∙ ap Some is

have-stay : (s t : Store) → SortsStay s t → (sorts : List Sort) (rs : List ℕ) → HaveSortsAt s sorts rs → HaveSortsAt t sorts rs
have-stay s t h [] rs k = k
have-stay s t h (sort ∷ sorts) rs (r, qs, e, at, more) = (r, qs, e, sort-stays s t h sort r at, have-stay s t h sorts qs more)

allows-at : (g : Signature) (sorts : List Sort) (ps : List Pattern) (n : ℕ) (p : Pattern) → IsTrue (allows_all g sorts (patterns_tree ps)) → slice_get ps n ≡ Some p → IsTrue (allows g sorts p)
allows-at g sorts [] n p h e = cc e
allows-at g sorts (q ∷ ps) zero p h e =
    let same : q ≡ p = cc e in
    subst (λ x. IsTrue (allows g sorts x)) same (and_parts (allows g sorts q) (allows_all g sorts (patterns_tree ps)) h).0
allows-at g sorts (q ∷ ps) (suc n) p h e = allows-at g sorts ps n p (and_parts (allows g sorts q) (allows_all g sorts (patterns_tree ps)) h).1 e

-- ---- one more

-- what matching one pattern gives
pub record MatchedOne (cur new : Store) (vs : List ℕ) (r : ℕ) (p : Pattern) : Type 0 where
  pub met : Narrows (Matches vs r p) cur new
  pub cells : AddsAndBinds cur new
  pub names : NamesKept vs r cur new
  pub within : BuildsOver vs (λ sorts g. allows g sorts p) cur new
  pub marks : KeepsMarks cur new

pub names-next : (old cur new : Store) (vs rs : List ℕ) (ps : List Pattern) (n r : ℕ) → MatchedTo old cur vs rs ps n → slice_get rs n ≡ Some r → NamesKept vs r cur new → AllNamesKept vs rs old new
names-next old cur new vs rs ps n r h e k base l low all names =
    k base (let m = adds-longer_both old cur h.cells in omega (arith, l, m)) low (leb-true base r (all-at (nat_le base) rs n r all e)) (h.names base l low all names)

pub matched-more : (old cur new : Store) (vs rs : List ℕ) (ps : List Pattern) (n r : ℕ) (p : Pattern) → IsTrue (is_store old) → IsTrue (list_all (has_value_sort_at old) vs) → r < length old.cells → slice_get rs n ≡ Some r → slice_get ps n ≡ Some p → MatchedTo old cur vs rs ps n → MatchedOne cur new vs r p → MatchedTo old new vs rs ps (n + 1)
matched-more old cur new vs rs ps n r p i values l er ep h k = record {
  met = narrows-more old cur new vs rs ps n r p (value-below old vs values) l er ep h.met k.met;
  cells = adds-both old cur new i h.cells k.cells;
  names = names-next old cur new vs rs ps n r h er k.names;
  within = λ sorts have g base a b. k.within sorts (have-stay old cur (sorts-stay old cur h.cells) sorts vs have) g base (allows-at g sorts ps n p a ep) (h.within sorts have g base a b);
  marks = KeepsMarks-both old cur new h.marks k.marks;
}

-- the pattern at the place cannot be matched
pub matched-nowhere : (old cur : Store) (vs rs : List ℕ) (ps : List Pattern) (n m r : ℕ) (p : Pattern) → IsTrue (list_all (has_value_sort_at old) vs) → r < length old.cells → slice_get rs n ≡ Some r → slice_get ps n ≡ Some p → n < m → MatchedTo old cur vs rs ps n → HoldsNowhere (Matches vs r p) cur → HoldsNowhere (MatchTo vs rs ps m) old
matched-nowhere old cur vs rs ps n m r p values l er ep k h none = nowhere-later old cur vs rs ps n m r p (value-below old vs values) l er ep k h.met none

-- ---- what was there stays

pub matched-values : (old cur : Store) (vs rs : List ℕ) (ps : List Pattern) (n : ℕ) → MatchedTo old cur vs rs ps n → IsTrue (list_all (has_value_sort_at old) vs) → IsTrue (list_all (has_value_sort_at cur) vs)
matched-values old cur vs rs ps n h k = values-stay old cur (sorts-stay old cur h.cells) vs k

pub matched-fits : (old cur : Store) (vs rs : List ℕ) (ps : List Pattern) (n : ℕ) (sort : Sort) (p : Pattern) → MatchedTo old cur vs rs ps n → IsTrue (fits_in old vs sort p) → IsTrue (fits_in cur vs sort p)
matched-fits old cur vs rs ps n sort p h k = fits-stay old cur vs sort p (sorts-stay old cur h.cells) k

pub matched-below : (old cur : Store) (vs rs : List ℕ) (ps : List Pattern) (n r : ℕ) → MatchedTo old cur vs rs ps n → r < length old.cells → r < length cur.cells
matched-below old cur vs rs ps n r h l = let m = adds-longer_both old cur h.cells in omega (arith, l, m)

-- ---- built cells

built-stays : (s t : Store) (x : ℕ) (c : Cell) → AddsAndBinds s t → slice_get s.cells x ≡ Some c → is_variable c ≡ false → slice_get t.cells x ≡ Some c
built-stays s t x c h e v = elim (h.binds.cells x c (grown-cell s h.mid x c (Grows-built s h.mid h.built) e)) [
  | inl same ↦ same
  | inr (sort, r, q, g) ↦ (let z : true ≡ false = sym (ap is_variable q) ∙ v in absurd (false≢true (sym z)))
]

pub stands-stays : (s t : Store) (x : ℕ) → AddsAndBinds s t → StandsBuilt s x → StandsBuilt t x
stands-stays s t x h (c, e, v) = (c, built-stays s t x c h e v, v)

-- what holds of the parts held of them before
pub parts-back : (s t : Store) (x : ℕ) (P : List ℕ → Type 0) → AddsAndBinds s t → StandsBuilt s x → ArePartsAt t x P → ArePartsAt s x P
parts-back s t x P h (c, e, v) k d f =
    let same : c ≡ d = same-some (slice_get s.cells x) c d e f in
    subst (λ z. P (parts_of z)) same (k c (built-stays s t x c h e v))

pub parts-forth : (s t : Store) (x : ℕ) (P : List ℕ → Type 0) → AddsAndBinds s t → StandsBuilt s x → ArePartsAt s x P → ArePartsAt t x P
parts-forth s t x P h (c, e, v) k d f =
    let same : c ≡ d = same-some (slice_get t.cells x) c d (built-stays s t x c h e v) f in
    subst (λ z. P (parts_of z)) same (k c e)

pub stands-end : (s : Store) (x : ℕ) → StandsBuilt s x → IsEnd s x
stands-end s x (c, e, v) = (c, e, unbound c v)

-- a cell from the number `base` on has such parts
pub names-parts : (s t : Store) (vs : List ℕ) (x : ℕ) → StandsBuilt s x → ArePartsAt s x (λ rs. AllNamesKept vs rs s t) → NamesKept vs x s t
names-parts s t vs x (c, e, v) k base l low from names = k c e base l low (names x c from e) names

-- a list of all parts of a built cell
pub parts-told : (s : Store) (x : ℕ) (xs : List ℕ) (P : List ℕ → Type 0) → StandsBuilt s x → EndsIn s x (λ d. xs ≡ parts_of d) → ArePartsAt s x P → P xs
parts-told s x xs P (c, e, v) t k = subst P (sym (told s x c (λ d. xs ≡ parts_of d) e (unbound c v) t)) (k c e)

pub parts-among : (s : Store) (x i k : ℕ) (xs : List ℕ) → StandsBuilt s x → EndsIn s x (λ d. xs ≡ parts_of d) → slice_get xs i ≡ Some k → ArePartsAt s x (λ rs. slice_get rs i ≡ Some k)
parts-among s x i k xs (c, e, v) t h d f = told s x d (λ y. slice_get (parts_of y) i ≡ Some k) f (ap is_bound (same-some (slice_get s.cells x) d c f e) ∙ unbound c v) (part-among s x i k xs t h)

-- a part is a cell that was there before
pub part-before : (s t : Store) (x i r : ℕ) → IsWellFormed s → AddsAndBinds s t → StandsBuilt s x → ArePartsAt t x (λ rs. slice_get rs i ≡ Some r) → ArePartsAt s x (λ rs. (slice_get rs i ≡ Some r) × (r < length s.cells))
part-before s t x i r w h b p d e =
    let at = parts-back s t x (λ rs. slice_get rs i ≡ Some r) h b p d e in
    (at, parts-within s d i r ((kept s w.fits).fits x d e) at)

-- all cells are matched, and there are as many as patterns
pub matched-all : (old new : Store) (vs rs : List ℕ) (qs ps : List Pattern) (n : ℕ) → qs ≡ ps → n ≡ length qs → length rs ≡ length qs → MatchedTo old new vs rs qs n → Narrows (λ σ. (length rs ≡ length ps) × MatchTo vs rs ps (length ps) σ) old new
matched-all old new vs rs qs ps n e m l h =
    subst (λ zs. Narrows (λ σ. (length rs ≡ length zs) × MatchTo vs rs zs (length zs) σ) old new) e
    (narrows-same (MatchTo vs rs qs n) (λ σ. (length rs ≡ length qs) × MatchTo vs rs qs (length qs) σ) old new (λ σ k. (λ q. (l, subst (λ i. MatchTo vs rs qs i σ) m q), λ q. subst (λ i. MatchTo vs rs qs i σ) (sym m) q.1)) h.met)

pub nowhere-all : (s : Store) (vs rs : List ℕ) (qs ps : List Pattern) → qs ≡ ps → HoldsNowhere (MatchTo vs rs qs (length qs)) s → HoldsNowhere (λ σ. (length rs ≡ length ps) × MatchTo vs rs ps (length ps) σ) s
nowhere-all s vs rs qs ps e h = subst (λ zs. HoldsNowhere (λ σ. (length rs ≡ length zs) × MatchTo vs rs zs (length zs) σ) s) e (λ σ k q. h σ k q.1)
