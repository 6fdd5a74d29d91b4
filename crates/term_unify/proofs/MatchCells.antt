-- Cells and bindings that come while patterns are matched against cells.
use Rattle.std.proofs.Common.{◌≡◌, ◌+◌, ◌≤◌, ◌&&◌, ◌||◌, ◌++◌, ◌∷◌, [], ℕ, List, length, Bool, true, false, Some, slice_get, IsTrue, refl, sym, ◌∙◌, ap, arith, inl, inr, nat_le, nat_lt, lt-ltb, length-append, leb-true}
use Rattle.std.specs.List.{list_all}
use Rattle.std.proofs.lemmas.Bool.{false≢true}
use Rattle.plain_laws.proofs.Every.{all-at}
use Rattle.plain_laws.proofs.Options.{found-more}
use Rattle.plain_laws.proofs.Places.{get-front, get-there, get-within}
use Rattle.calculus.specs.declared.sort.Sort.{Sort}
use Rattle.calculus.specs.declared.sort.Sort.TheVariants.{TermSort, MarkSort, StringSort}
use Rattle.calculus.specs.Equality.{sort_eq}
use Rattle.calculus.proofs.PlaceLists.{all-more, get-last}
use Rattle.store_theory.specs.Bindings.{AddsBuilt, nothing_more, one_more, AddsOver, BindsOnly, BindsWithin, with_cell, is_variable}
use Rattle.store_theory.specs.Patterns.{Pattern, Patterns, p_var, p_fun, p_eigen, p_new, no_patterns, more_patterns}
use Rattle.store_theory.specs.Stores.{Cell, variable, fun_cell, eigen_cell, new_cell, string_cell, Store, is_bound, is_store, parts_of, sort_of, has_sort_at, has_value_sort_at, names_below}
use Rattle.store_theory.proofs.BindingLaws.{has_sort-from, is_store-with_cell, or-more, parts-within, parts_fit-more, sorted_cell}
use Rattle.store_theory.proofs.PatternLaws.{AddsBuilt-both, Grows-built, and-both, and-more, grown-sort}
use Rattle.search_theory.proofs.BuildingLaws.{adds-longer}
use Rattle.search_theory.proofs.WithinLaws.{names-within}
use Rattle.term_store.specs.Fitting.{fits_in, parts_fit_in}
use Rattle.term_store.specs.Signatures.{BuildsOver, Signature}
use Rattle.term_store.proofs.SignatureLaws.{allowed-binds}
use Rattle.term_unify.specs.Closed.{IsClosedBelow}
use Rattle.term_unify.specs.Matching.{AddsAndBinds, NamesKept}
use Rattle.term_unify.proofs.PairLaws.{BindsOnly-both, BindsOnly-same}

-- ---- built cells that come

-- cells that come name older ones alone
pub closed-adds : (n : ℕ) (s t : Store) → AddsBuilt s t → IsClosedBelow n s → IsClosedBelow n t
closed-adds n s t nothing_more h = h
closed-adds n s t (one_more c i f b more) h = closed-adds n (with_cell c s) t more one
  where
    one : IsClosedBelow n (with_cell c s)
    one r k j d l e p = elim (get-last s.cells r d c e) [
      | inl old ↦ h r k j d l old p
      | inr new ↦ (let w = parts-within s c j k f (ap (λ x. slice_get (parts_of x) j) new.1 ∙ p) in let q = new.0 in omega (arith, w, q, l))
    ]

pub unbound : (c : Cell) → is_variable c ≡ false → is_bound c ≡ false
unbound (variable sort b) h = absurd (false≢true (sym h))
unbound (fun_cell f rs) h = refl
unbound (eigen_cell f rs) h = refl
unbound (new_cell f rs) h = refl
unbound (string_cell rs) h = refl

pub stores-built : (s t : Store) → AddsBuilt s t → IsTrue (is_store s) → IsTrue (is_store t)
stores-built s t nothing_more h = h
stores-built s t (one_more c i f b more) h = stores-built (with_cell c s) t more (is_store-with_cell c s i f (unbound c b))

-- ---- sorts stay

pub value-below : (s : Store) (vs : List ℕ) → IsTrue (list_all (has_value_sort_at s) vs) → IsTrue (names_below (length s.cells) vs)
value-below s vs h = all-more (has_value_sort_at s) (λ r. nat_lt r (length s.cells)) vs (λ r k. by r k) h
  where
    one : (sort : Sort) (r : ℕ) → has_sort_at s sort r ≡ true → nat_lt r (length s.cells) ≡ true
    one sort r k = let c = sorted_cell s sort r k in lt-ltb r (length s.cells) (get-within s.cells r c.0 c.1)

    either : (p q t : Bool) → (p ≡ true → t ≡ true) → (q ≡ true → t ≡ true) → (p || q) ≡ true → t ≡ true
    either true q t f g k = f refl
    either false q t f g k = g k

    by : (r : ℕ) → has_value_sort_at s r ≡ true → nat_lt r (length s.cells) ≡ true
    by r k = either (has_sort_at s TermSort r) (has_sort_at s StringSort r) (nat_lt r (length s.cells)) (one TermSort r) (one StringSort r) k

-- each cell keeps its sort
abbrev pub SortsStay : Store → Store → Type 0
SortsStay s t = (sort : Sort) (r : ℕ) → IsTrue (has_sort_at s sort r) → IsTrue (has_sort_at t sort r)

bound-sort : (s t : Store) → BindsOnly s t → SortsStay s t
bound-sort s t b sort r h =
    let (c, e, f) = sorted_cell s sort r h in
    elim (b.cells r c e) [
      | inl same ↦ has_sort-from t sort r c same f
      | inr (u, k, q, g) ↦ has_sort-from t sort r (variable u (Some k)) g (sym (ap sort_of q) ∙ f)
    ]

pub sorts-stay : (s t : Store) → AddsAndBinds s t → SortsStay s t
sorts-stay s t h sort r k = bound-sort h.mid t h.binds sort r (grown-sort s h.mid sort r (Grows-built s h.mid h.built) k)

-- before the bindings it had the sort too
sort-before : (s t : Store) → BindsOnly s t → SortsStay t s
sort-before s t b sort r h =
    let (c, e, f) = sorted_cell t sort r h in
    let (d, g) = get-there s.cells r (let l = get-within t.cells r c e in let m = b.same_length in omega (arith, l, m)) in
    elim (b.cells r d g) [
      | inl same ↦ has_sort-from s sort r d g (ap sort_of (let q : Some d ≡ Some c = sym same ∙ e in let z : d ≡ c = cc q in z) ∙ f)
      | inr (u, k, q, i) ↦ has_sort-from s sort r d g (ap sort_of q ∙ ap sort_of (let z : Some (variable u (Some k)) ≡ Some c = sym i ∙ e in let w : variable u (Some k) ≡ c = cc z in w) ∙ f)
    ]

pub values-stay : (s t : Store) → SortsStay s t → (vs : List ℕ) → IsTrue (list_all (has_value_sort_at s) vs) → IsTrue (list_all (has_value_sort_at t) vs)
values-stay s t h vs k = all-more (has_value_sort_at s) (has_value_sort_at t) vs (λ r. or-more (has_sort_at s TermSort r) (has_sort_at t TermSort r) (has_sort_at s StringSort r) (has_sort_at t StringSort r) (h TermSort r) (h StringSort r)) k

mutual
  pub fits-stay : (s t : Store) (vs : List ℕ) (sort : Sort) (p : Pattern) → SortsStay s t → IsTrue (fits_in s vs sort p) → IsTrue (fits_in t vs sort p)
  fits-stay s t vs sort (p_var k) g h = found-more (has_sort_at s sort) (has_sort_at t sort) (slice_get vs k) (g sort) h
  fits-stay s t vs sort (p_fun f ps) g h = and-more (sort_eq sort TermSort) (parts_fit_in s vs TermSort false ps) (parts_fit_in t vs TermSort false ps) (parts_fit-stay s t vs TermSort false ps g) h
  fits-stay s t vs sort (p_eigen f ps) g h = and-more (sort_eq sort TermSort) (parts_fit_in s vs TermSort true ps) (parts_fit_in t vs TermSort true ps) (parts_fit-stay s t vs TermSort true ps g) h
  fits-stay s t vs sort (p_new f ps) g h = and-more (sort_eq sort MarkSort) (parts_fit_in s vs TermSort true ps) (parts_fit_in t vs TermSort true ps) (parts_fit-stay s t vs TermSort true ps g) h

  pub parts_fit-stay : (s t : Store) (vs : List ℕ) (b : Sort) (w : Bool) (ps : Patterns) → SortsStay s t → IsTrue (parts_fit_in s vs b w ps) → IsTrue (parts_fit_in t vs b w ps)
  parts_fit-stay s t vs b w no_patterns g h = refl
  parts_fit-stay s t vs b w (more_patterns p ps) g h = and-both (fits_in s vs b p || (w && fits_in s vs StringSort p)) (fits_in t vs b p || (w && fits_in t vs StringSort p)) (parts_fit_in s vs b w ps) (parts_fit_in t vs b w ps)
      (or-more (fits_in s vs b p) (fits_in t vs b p) (w && fits_in s vs StringSort p) (w && fits_in t vs StringSort p) (fits-stay s t vs b p g) (and-more w (fits_in s vs StringSort p) (fits_in t vs StringSort p) (fits-stay s t vs StringSort p g)))
      (parts_fit-stay s t vs b w ps g) h

-- ---- cells and then bindings

pub adds-none : (s : Store) → AddsAndBinds s s
adds-none s = record { mid = s; built = nothing_more; binds = BindsOnly-same s }

pub adds-built : (s t : Store) → AddsBuilt s t → AddsAndBinds s t
adds-built s t h = record { mid = t; built = h; binds = BindsOnly-same t }

pub adds-bound : (s t u : Store) → AddsBuilt s t → BindsOnly t u → AddsAndBinds s u
adds-bound s t u h b = record { mid = t; built = h; binds = b }

binds-with : (c : Cell) (s t : Store) → BindsOnly s t → BindsOnly (with_cell c s) (with_cell c t)
binds-with c s t b = record {
  same_length = length-append t.cells (c ∷ []) ∙ ap (λ n. n + 1) b.same_length ∙ sym (length-append s.cells (c ∷ []));
  cells = λ n d e. elim (get-last s.cells n d c e) [
    | inl old ↦ elim (b.cells n d old) [
      | inl same ↦ inl (get-front t.cells (c ∷ []) n d same)
      | inr (u, k, q, g) ↦ inr (u, k, q, get-front t.cells (c ∷ []) n (variable u (Some k)) g)
    ]
    | inr (at, is) ↦ inl (ap (slice_get (t.cells ++ c ∷ [])) (at ∙ sym b.same_length) ∙ last t.cells c ∙ ap Some is)
  ];
}
  where
    last : (xs : List Cell) (y : Cell) → slice_get (xs ++ y ∷ []) (length xs) ≡ Some y
    last [] y = refl
    last (x ∷ xs) y = last xs y

-- cells that come after bindings might have come before them
earlier : (s m t u : Store) → IsTrue (is_store m) → AddsBuilt s m → BindsOnly m t → AddsBuilt t u → AddsAndBinds s u
earlier s m t u i a b nothing_more = record { mid = m; built = a; binds = b }
earlier s m t u i a b (one_more c j f v more) =
    let fits = parts_fit-more t m (λ sort r. sort-before m t b sort r) c f in
    earlier s (with_cell c m) (with_cell c t) u (is_store-with_cell c m i fits (unbound c v)) (AddsBuilt-both s m (with_cell c m) a (one_more c i fits v nothing_more)) (binds-with c m t b) more

pub adds-both : (s t u : Store) → IsTrue (is_store s) → AddsAndBinds s t → AddsAndBinds t u → AddsAndBinds s u
adds-both s t u i a b =
    let x = earlier s a.mid t b.mid (stores-built s a.mid a.built i) a.built a.binds b.built in
    record { mid = x.mid; built = x.built; binds = BindsOnly-both x.mid b.mid u x.binds b.binds }

pub adds-longer_both : (s t : Store) → AddsAndBinds s t → length s.cells ≤ length t.cells
adds-longer_both s t h = let x = adds-longer s h.mid h.built in let y = h.binds.same_length in omega (arith, x, y)

-- ---- what comes names cells from a number on

pub names-copy : (vs : List ℕ) (r q : ℕ) (s t u : Store) → AddsOver vs s t → ((base : ℕ) → base ≤ length s.cells → IsTrue (list_all (nat_le base) vs) → IsTrue (nat_le base q)) → BindsOnly t u → BindsWithin r q t u → NamesKept vs r s u
names-copy vs r q s t u adds own binds within base l h k n = names-within base r q t u binds within (adds.names base l h n) k (leb-true base q (own base l h))

pub names-variable : (vs : List ℕ) (k r q : ℕ) (s t : Store) → slice_get vs k ≡ Some q → BindsOnly s t → BindsWithin r q s t → NamesKept vs r s t
names-variable vs k r q s t e binds within base l h b n = names-within base r q s t binds within n b (leb-true base q (all-at (nat_le base) vs k q h e))

pub names-built : (vs : List ℕ) (r : ℕ) (s t : Store) → AddsOver vs s t → NamesKept vs r s t
names-built vs r s t adds base l h k n = adds.names base l h n

-- ---- what comes is allowed

pub within-bound : (vs : List ℕ) (p : List Sort → Signature → Bool) (s t u : Store) → BuildsOver vs p s t → BindsOnly t u → BuildsOver vs p s u
within-bound vs p s t u h b sorts have g base k l = allowed-binds g base t u b (h sorts have g base k l)
