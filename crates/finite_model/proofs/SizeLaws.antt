-- The number of tuples, and numbers within bounds.
use Rattle.std.proofs.Common.{◌≡◌, ℕ, zero, suc, ◌+◌, ◌*◌, ◌^◌, ◌≤◌, ◌<◌, List, [], ◌∷◌, ◌++◌, length, map, take, get_or, true, false, ◌&&◌, nat_le, IsTrue, refl, sym, ◌∙◌, ap, arith, leb-true, le-leb, inl, inr}
use Rattle.std.specs.List.{list_all}
use Rattle.std.proofs.lemmas.Bool.{and_parts, and_from, cases_Bool, false≢true}
use Rattle.std.proofs.Math.Nat.{mul-le-mul, pow-suc, pow-zero, pow-le-pow_right}
use Rattle.std.proofs.Math.Seq.{take-length}
use Rattle.std.proofs.lemmas.List.{map-append, take_more}
use Rattle.std.proofs.lemmas.List.Folds.{list_all-append}
use Rattle.plain_laws.proofs.Numbers.{one-power}
use Rattle.calculus.specs.Syntax.{Symbol}
use Rattle.calculus.specs.StructureText.{fits_table, is_size}
use Rattle.formula_core.specs.SymbolView.{the_symbol}
use Rattle.formula_core.specs.declared.symbol.Symbol as program
use Rattle.finite_model.specs.Slots.{table_sizes}

pub power-next : (e i : ℕ) → e ^ i * e ≡ e ^ (i + 1)
power-next e i = sym (pow-suc e i) ∙ (let f : suc i ≡ i + 1 = omega arith in ap (λ j. e ^ j) f)

pub power-grows : (e i n : ℕ) → 1 ≤ e → i ≤ n → e ^ i ≤ e ^ n
power-grows e i n h le = pow-le-pow_right (let p : 0 < e = omega arith in p) le

pub size-most : (n : ℕ) → IsTrue (is_size n) → n ≤ 64
size-most n h = leb-true n 64 (and_parts (nat_le 1 n) (nat_le n 64) h).1

pub table-fits : (E : ℕ) (s : Symbol) (n : ℕ) → n ≡ E ^ s.arity → n ≤ 1000000 → IsTrue (fits_table E s)
table-fits E s n e h = le-leb (E ^ s.arity) 1000000 (omega arith)

pub table-large : (E : ℕ) (s : Symbol) → 1000000 < E ^ s.arity → fits_table E s ≡ false
table-large E s h = elim (cases_Bool (fits_table E s)) [
  | inl y ↦ (let k = leb-true (E ^ s.arity) 1000000 y in absurd (omega arith))
  | inr n ↦ n
]

-- ---- from argument to argument

pub size-begun : (e : ℕ) → 1 ≡ e ^ 0
size-begun e = sym (pow-zero e)

pub size-fits : (size e : ℕ) → size ≤ 1000000 → e < 256 → size * e < 18446744073709551616
size-fits size e h k = let p = mul-le-mul h (let q : e ≤ 255 = omega arith in q) in omega (arith, p)

pub size-next : (size e i : ℕ) → size ≡ e ^ i → size * e ≡ e ^ (i + 1)
size-next size e i h = ap (λ k. k * e) h ∙ power-next e i

pub size-large : (size e i n most : ℕ) → 1 ≤ e → i < n → size ≡ e ^ i → most < size * e → most < e ^ n
size-large size e i n most least lt h large =
    let p = size-next size e i h in
    let g = power-grows e (i + 1) n least (omega arith) in
    omega (arith, p, g, large)

pub size-one : (e n : ℕ) → e ≡ 1 → 1 ≡ e ^ n
size-one e n h = sym (ap (λ k. k ^ n) h ∙ one-power n)

-- ---- from symbol to symbol

grown : (xs : List program.Symbol) (i : ℕ) (s : program.Symbol) → i < length xs → s ≡ get_or xs i s → map the_symbol (take (i + 1) xs) ≡ map the_symbol (take i xs) ++ the_symbol s ∷ []
grown xs i s h e =
    ap (map the_symbol) (take_more xs i s h)
    ∙ map-append the_symbol (take i xs) (get_or xs i s ∷ [])
    ∙ ap (λ x. map the_symbol (take i xs) ++ the_symbol x ∷ []) (sym e)

pub sizes-on : (E : ℕ) (xs : List program.Symbol) (i n : ℕ) (s : program.Symbol) (old new : List ℕ) → i < length xs → s ≡ get_or xs i s → n ≡ E ^ s.arity → new ≡ old ++ n ∷ [] → old ≡ table_sizes E (map the_symbol (take i xs)) → new ≡ table_sizes E (map the_symbol (take (i + 1) xs))
sizes-on E xs i n s old new h e size added before =
    added
    ∙ (λ j. before j ++ size j ∷ [])
    ∙ sym (map-append (λ (x : Symbol). E ^ x.arity) (map the_symbol (take i xs)) (the_symbol s ∷ []))
    ∙ ap (table_sizes E) (sym (grown xs i s h e))

pub fits-on : (E : ℕ) (xs : List program.Symbol) (i n : ℕ) (s : program.Symbol) → i < length xs → s ≡ get_or xs i s → n ≡ E ^ s.arity → n ≤ 1000000 → IsTrue (list_all (fits_table E) (map the_symbol (take i xs))) → IsTrue (list_all (fits_table E) (map the_symbol (take (i + 1) xs)))
fits-on E xs i n s h e size small before =
    ap (list_all (fits_table E)) (grown xs i s h e)
    ∙ list_all-append (fits_table E) (map the_symbol (take i xs)) (the_symbol s ∷ [])
    ∙ and_from (list_all (fits_table E) (map the_symbol (take i xs))) (fits_table E (the_symbol s) && true) before (and_from (fits_table E (the_symbol s)) true (table-fits E (the_symbol s) n size small) refl)

pub not-all_fit : (E : ℕ) (xs : List program.Symbol) (i : ℕ) (s : program.Symbol) → i < length xs → s ≡ get_or xs i s → 1000000 < E ^ s.arity → IsTrue (list_all (fits_table E) (map the_symbol xs)) → ⊥
not-all_fit E [] i s h e large all = absurd (omega arith)
not-all_fit E (x ∷ xs) zero s h e large all = false≢true (sym (table-large E (the_symbol s) large) ∙ ap (λ y. fits_table E (the_symbol y)) e ∙ (and_parts (fits_table E (the_symbol x)) (list_all (fits_table E) (map the_symbol xs)) all).0)
not-all_fit E (x ∷ xs) (suc i) s h e large all = not-all_fit E xs i s (omega arith) e large (and_parts (fits_table E (the_symbol x)) (list_all (fits_table E) (map the_symbol xs)) all).1

pub sizes-all : (E : ℕ) (xs : List program.Symbol) (i : ℕ) (sizes : List ℕ) → i ≡ length xs → sizes ≡ table_sizes E (map the_symbol (take i xs)) → sizes ≡ table_sizes E (map the_symbol xs)
sizes-all E xs i sizes e h = h ∙ ap (λ k. table_sizes E (map the_symbol (take k xs))) e ∙ ap (λ l. table_sizes E (map the_symbol l)) (take-length xs)

pub fits-all : (E : ℕ) (xs : List program.Symbol) (i : ℕ) → i ≡ length xs → IsTrue (list_all (fits_table E) (map the_symbol (take i xs))) → IsTrue (list_all (fits_table E) (map the_symbol xs))
fits-all E xs i e h = sym (ap (λ k. list_all (fits_table E) (map the_symbol (take k xs))) e ∙ ap (λ l. list_all (fits_table E) (map the_symbol l)) (take-length xs)) ∙ h
