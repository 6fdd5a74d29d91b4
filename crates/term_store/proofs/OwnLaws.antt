-- Built cells that name variables and one another alone.
use Rattle.std.proofs.Common.{◌≡◌, ◌≤◌, ◌<◌, ◌+◌, ◌++◌, ◌∷◌, ◌&&◌, [], Some, None, IsTrue, length, ℕ, zero, suc, List, Bool, false, refl, sym, ap, ◌∙◌, subst, arith, inl, inr, length-append, nat_le, le-leb}
use Rattle.std.specs.Prelude.{slice_get}
use Rattle.std.specs.List.{list_all}
use Rattle.std.specs.Option.{option_map_or}
use Rattle.std.proofs.lemmas.Bool.{false≢true, and_from}
use Rattle.plain_laws.proofs.Every.{all-append}
use Rattle.plain_laws.proofs.Places.{get-within}
use Rattle.calculus.specs.declared.sort.Sort.{Sort}
use Rattle.store_theory.specs.Stores.{Cell, variable, Store, parts_of, parts_fit, is_store, has_sort_at}
use Rattle.store_theory.specs.Bindings.{with_cell, with_variables_of, places_from, is_variable, nothing_more, one_more, NamesFrom, AddsOver, NamesOver}
use Rattle.store_theory.specs.Patterns.{Grows}
use Rattle.calculus.proofs.PlaceLists.{get-last}
use Rattle.store_theory.proofs.BindingLaws.{sorted_cell}
use Rattle.store_theory.proofs.PatternLaws.{AddsBuilt-both, Grows-built, length-variables}
use Rattle.term_store.specs.declared.cell.Name.{Name}
use Rattle.term_store.specs.declared.cell.Name.TheVariants.{Fun, Eigen, New, Marks}
use Rattle.term_store.specs.Built.{named_cell}

pub length-grown : (s t : Store) → Grows s t → length s.cells ≤ length t.cells
length-grown s t (more, e, f) = let l = ap length e ∙ length-append s.cells more in omega (arith, l)

pub names-same : (vs : List ℕ) (s : Store) → AddsOver vs s s
names-same vs s = record { built = nothing_more; names = λ base l h k. k }

-- what is added over these cells, and then over cells that are over these
pub over-then : (vs qs : List ℕ) (s t u : Store) → AddsOver vs s t → NamesOver vs (length s.cells) (λ base. list_all (nat_le base) qs) → AddsOver qs t u → AddsOver vs s u
over-then vs qs s t u a o b = record {
  built = AddsBuilt-both s t u a.built b.built;
  names = λ base l h k. b.names base (let g = length-grown s t (Grows-built s t a.built) in omega (arith, l, g)) (o base l h) (a.names base l h k);
}

pub over-both : (vs : List ℕ) (s t u : Store) → AddsOver vs s t → AddsOver vs t u → AddsOver vs s u
over-both vs s t u a b = over-then vs vs s t u a (λ base l h. h) b

pub names-with_cell : (base : ℕ) (c : Cell) (s : Store) → IsTrue (list_all (nat_le base) (parts_of c)) → NamesFrom base s → NamesFrom base (with_cell c s)
names-with_cell base c s h k n d l e = elim (get-last s.cells n d c e) [
  | inl old ↦ k n d l old
  | inr new ↦ subst (λ x. IsTrue (list_all (nat_le base) (parts_of x))) new.1 h
]

parts-named : (name : Name) (rs : List ℕ) → parts_of (named_cell name rs) ≡ rs
parts-named (Fun f) rs = refl
parts-named (Eigen p) rs = refl
parts-named (New p) rs = refl
parts-named Marks rs = refl

built-named : (name : Name) (rs : List ℕ) → is_variable (named_cell name rs) ≡ false
built-named (Fun f) rs = refl
built-named (Eigen p) rs = refl
built-named (New p) rs = refl
built-named Marks rs = refl

-- a built cell more
pub over-one : (name : Name) (rs : List ℕ) (s : Store) → IsTrue (is_store s) → IsTrue (parts_fit s (named_cell name rs)) → AddsOver rs s (with_cell (named_cell name rs) s)
over-one name rs s i f = record {
  built = one_more (named_cell name rs) i f (built-named name rs) nothing_more;
  names = λ base l h k. names-with_cell base (named_cell name rs) s (subst (λ xs. IsTrue (list_all (nat_le base) xs)) (sym (parts-named name rs)) h) k;
}

-- what stands over later cells stands over earlier ones
pub own-later : (vs : List ℕ) (s t : Store) (f : ℕ → Bool) → Grows s t → NamesOver vs (length t.cells) f → NamesOver vs (length s.cells) f
own-later vs s t f g o base l h = o base (let q = length-grown s t g in omega (arith, l, q)) h

pub own-both : (vs : List ℕ) (n : ℕ) (f g : ℕ → Bool) → NamesOver vs n f → NamesOver vs n g → NamesOver vs n (λ base. f base && g base)
own-both vs n f g o p base l h = and_from (f base) (g base) (o base l h) (p base l h)

pub own-append : (A : Type 0) (f : ℕ → A → Bool) (vs : List ℕ) (n : ℕ) (xs ys : List A) → NamesOver vs n (λ base. list_all (f base) xs) → NamesOver vs n (λ base. list_all (f base) ys) → NamesOver vs n (λ base. list_all (f base) (xs ++ ys))
own-append A f vs n xs ys o p base l h = all-append (f base) xs ys (o base l h) (p base l h)

-- a new cell is not below
pub own-new : (vs : List ℕ) (s t : Store) (r : ℕ) → Grows s t → r ≡ length t.cells → NamesOver vs (length s.cells) (λ base. nat_le base r)
own-new vs s t r g e base l h = le-leb base r (let q = length-grown s t g in omega (arith, l, q, e))

-- ---- new variables

pub names-variables : (base : ℕ) (sorts : List Sort) (s : Store) → NamesFrom base s → NamesFrom base (with_variables_of sorts s)
names-variables base [] s k = k
names-variables base (sort ∷ sorts) s k = names-variables base sorts (with_cell (variable sort None) s) (names-with_cell base (variable sort None) s refl k)

pub places-own : (base n k : ℕ) → base ≤ n → IsTrue (list_all (nat_le base) (places_from n k))
places-own base n zero l = refl
places-own base n (suc k) l = and_from (nat_le base n) (list_all (nat_le base) (places_from (suc n) k)) (le-leb base n l) (places-own base (suc n) k (omega (arith, l)))

no-cell : (xs : List Cell) (n : ℕ) (c : Cell) → length xs ≤ n → slice_get xs n ≡ Some c → IsTrue (list_all (nat_le (length xs)) (parts_of c))
no-cell xs n c l e = absurd (let q = within xs n e in omega (arith, l, q))
  where
    within : (ys : List Cell) (i : ℕ) → slice_get ys i ≡ Some c → i < length ys
    within [] i e = absurd (cc)
    within (y ∷ ys) zero e = omega arith
    within (y ∷ ys) (suc i) e = let q = within ys i e in omega (arith, q)

-- what is added over new variables names new cells alone
pub names-new : (vs : List ℕ) (sorts : List Sort) (s t u : Store) → t ≡ with_variables_of sorts s → vs ≡ places_from (length s.cells) (length sorts) → AddsOver vs t u → NamesFrom (length s.cells) u
names-new vs sorts s t u e f a =
    a.names (length s.cells) (let q = ap (λ x. length x.cells) e ∙ length-variables sorts s in omega (arith, q)) (subst (λ xs. IsTrue (list_all (nat_le (length s.cells)) xs)) (sym f) (places-own (length s.cells) (length s.cells) (length sorts) (omega arith)))
    (subst (NamesFrom (length s.cells)) (sym e) (names-variables (length s.cells) sorts s (no-cell s.cells)))

pub own-new_variables : (vs : List ℕ) (sorts : List Sort) (s t : Store) (f : ℕ → Bool) → t ≡ with_variables_of sorts s → vs ≡ places_from (length s.cells) (length sorts) → NamesOver vs (length t.cells) f → IsTrue (f (length s.cells))
own-new_variables vs sorts s t f e g o =
    o (length s.cells) (let q = ap (λ x. length x.cells) e ∙ length-variables sorts s in omega (arith, q)) (subst (λ xs. IsTrue (list_all (nat_le (length s.cells)) xs)) (sym g) (places-own (length s.cells) (length s.cells) (length sorts) (omega arith)))

-- a variable that stands side by side with others
place-at : (n count k : ℕ) (p : ℕ → Bool) → IsTrue (option_map_or p (slice_get (places_from n count) k) false) → (slice_get (places_from n count) k ≡ Some (n + k)) × IsTrue (p (n + k))
place-at n zero k p h = absurd (false≢true h)
place-at n (suc count) zero p h = let e : n ≡ n + 0 = omega arith in (ap Some e, subst (λ m. IsTrue (p m)) e h)
place-at n (suc count) (suc k) p h =
    let e : suc n + k ≡ n + suc k = omega arith in
    let w = place-at (suc n) count k p h in
    (w.0 ∙ ap Some e, subst (λ m. IsTrue (p m)) e w.1)

pub variable-there : (s : Store) (n count k : ℕ) (sort : Sort) → IsTrue (option_map_or (has_sort_at s sort) (slice_get (places_from n count) k) false) → (slice_get (places_from n count) k ≡ Some (n + k)) × (n + k < length s.cells)
variable-there s n count k sort h =
    let w = place-at n count k (has_sort_at s sort) h in
    let t = sorted_cell s sort (n + k) w.1 in
    (w.0, get-within s.cells (n + k) t.0 t.1)
