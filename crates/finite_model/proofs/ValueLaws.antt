-- Tables, and the places of tuples in them.
use Rattle.std.proofs.Common.{◌≡◌, inl, inr, ℕ, zero, suc, ◌+◌, ◌-◌, ◌*◌, ◌<◌, ◌≤◌, List, [], ◌∷◌, length, map, get_or, reverse, min, Bool, false, Option, Some, refl, sym, ◌∙◌, ap, arith, slice_get, Bor, option_copied}
use Rattle.std.specs.List.{list_all}
use Rattle.std.specs.Option.{option_map, option_map_or}
use Rattle.std.specs.Prelude.{Vec}
use Rattle.std.specs.declared.alloc.Global.{Global}
use Rattle.std.proofs.Math.Nat.{min-le_left, min-eq_left, min-eq_right}
use Rattle.std.proofs.lemmas.Bool.{cases_lt}
use Rattle.std.proofs.lemmas.List.{get_or_past, get_or-reverse, length-reverse}
use Rattle.plain_laws.proofs.Booleans.{and-true}
use Rattle.calculus.specs.declared.setting.Logic.{Logic}
use Rattle.calculus.specs.declared.setting.Logic.TheVariants.{Classical, Intuitionistic, D, T as LogicT, S4, S5}
use Rattle.calculus.specs.Structures.{Structure, list_at, bit_at, truth_in, from_here}
use Rattle.calculus.specs.StructureTruth.{chosen_worlds}
use Rattle.finite_model.specs.declared.structure.Meaning as program
use Rattle.finite_model.specs.declared.structure.Meaning.TheVariants.{Truths}
use Rattle.finite_model.specs.StructureView.{is_one, the_lists, the_meaning, the_rows}

-- ---- an entry of a table

-- a place that is there is the place itself
pub entry-there : (xs : List ℕ) (place k m : ℕ) → place ≡ min k m → place < length xs → length xs ≤ m → get_or xs place 0 ≡ get_or xs k 0
entry-there xs place k m e h le = elim (cases_lt m k) [
  | inl far ↦ (let x : min k m ≡ m = min-eq_right (let y : m ≤ k = omega arith in y) in absurd (omega arith))
  | inr near ↦ ap (λ i. get_or xs i 0) (e ∙ min-eq_left near)
]

-- a place past the table is past it
pub entry-past : (xs : List ℕ) (place k m : ℕ) → place ≡ min k m → length xs ≤ place → 0 ≡ get_or xs k 0
entry-past xs place k m e h = let x = min-le_left k m in sym (get_or_past xs k 0 (omega arith))

-- ---- lists by their numbers

pub list-there : (xs : List (Vec ℕ Global)) (n : ℕ) (v : Vec ℕ Global) → n < length xs → v ≡ get_or xs n v → v.items ≡ list_at (the_lists xs) n
list-there [] n v h e = absurd (omega arith)
list-there (x ∷ xs) zero v h e = ap (λ (y : Vec ℕ Global). y.items) e
list-there (x ∷ xs) (suc n) v h e = list-there xs n v (omega arith) e

pub list-past : (xs : List (Vec ℕ Global)) (n : ℕ) → length xs ≤ n → [] ≡ list_at (the_lists xs) n
list-past [] n h = refl
list-past (x ∷ xs) zero h = absurd (omega arith)
list-past (x ∷ xs) (suc n) h = list-past xs n (omega arith)

-- ---- rows of digits

-- the bit of a place by the digit
bit-by_digit : (row : List ℕ) (k : ℕ) → bit_at (map is_one row) k ≡ is_one (get_or row k 0)
bit-by_digit [] k = refl
bit-by_digit (b ∷ row) zero = refl
bit-by_digit (b ∷ row) (suc k) = bit-by_digit row k

pub row-bit : (rows : List (Vec ℕ Global)) (w k : ℕ) → is_one (get_or (list_at (the_lists rows) w) k 0) ≡ option_map_or (λ row. bit_at row k) (slice_get (the_rows rows) w) false
row-bit [] w k = refl
row-bit (r ∷ rows) zero k = sym (bit-by_digit r.items k)
row-bit (r ∷ rows) (suc w) k = row-bit rows w k

-- a symbol that means rows
pub shown-truths : (m : Option (Bor program.Meaning)) (b : Bor program.Meaning) (rows : Vec (Vec ℕ Global) Global) (w k : ℕ) → m ≡ Some b → b.now ≡ Truths rows → option_map_or (truth_in w k) (option_map the_meaning (option_copied m)) false ≡ option_map_or (λ row. bit_at row k) (slice_get (the_rows rows.items) w) false
shown-truths m b rows w k e f =
    ap (λ x. option_map_or (truth_in w k) (option_map the_meaning (option_copied x)) false) e
    ∙ ap (λ x. truth_in w k (the_meaning x)) f

-- ---- places

far-added : (m q v : ℕ) → min (min q m + v) m ≡ min (q + v) m
far-added m q v = elim (cases_lt m q) [
  | inl far ↦ ap (λ k. min (k + v) m) (min-eq_right (let y : m ≤ q = omega arith in y)) ∙ min-eq_right (let y : m ≤ m + v = omega arith in y) ∙ sym (min-eq_right (let y : m ≤ q + v = omega arith in y))
  | inr near ↦ ap (λ k. min (k + v) m) (min-eq_left near)
]

times-more : (a e : ℕ) → a ≤ a * suc e
times-more a zero = omega arith
times-more a (suc e) = let h = times-more a e in omega (arith, h)

-- the place of a tuple with and-true element more, as far as numbers go
pub far-place : (m e p v : ℕ) → min (min (min p m * e) m + v) m ≡ min (p * e + v) m
far-place m e p v = elim (cases_lt m p) [
  | inl far ↦ by e (min-eq_right (let y : m ≤ p = omega arith in y)) (let y : m ≤ p = omega arith in y)
  | inr near ↦ ap (λ k. min (min (k * e) m + v) m) (min-eq_left near) ∙ far-added m (p * e) v
]
  where
    by : (e : ℕ) → min p m ≡ m → m ≤ p → min (min (min p m * e) m + v) m ≡ min (p * e + v) m
    by zero same le = (let a : min p m * zero ≡ 0 = omega arith in let b : p * zero ≡ 0 = omega arith in ap (λ k. min (min k m + v) m) a ∙ far-added m 0 v ∙ sym (ap (λ k. min (k + v) m) b))
    by (suc e) same le =
        let a = times-more m e in
        let b = times-more p e in
        ap (λ k. min (min (k * suc e) m + v) m) same
        ∙ ap (λ k. min (k + v) m) (min-eq_right a)
        ∙ min-eq_right (let y : m ≤ m + v = omega arith in y)
        ∙ sym (min-eq_right (let y : m ≤ p * suc e + v = omega (arith, b) in y))

-- ---- variables

pub element-there : (env : List ℕ) (k : ℕ) → k < length env → get_or env (length env - 1 - k) 0 ≡ get_or (reverse env) k 0
element-there env k h = sym (get_or-reverse env k 0 h)

pub element-past : (env : List ℕ) (k : ℕ) → length env ≤ k → 0 ≡ get_or (reverse env) k 0
element-past env k h = sym (get_or_past (reverse env) k 0 (let e = length-reverse env in omega arith))

-- ---- atoms

-- what holds from here on holds at each chosen world
pub here-chosen : (l : Logic) (S : Structure) (w : ℕ) (test : ℕ → Bool) → list_all test (chosen_worlds l S w) ≡ from_here l S w test
here-chosen Intuitionistic S w test = refl
here-chosen Classical S w test = and-true (test w)
here-chosen D S w test = and-true (test w)
here-chosen LogicT S w test = and-true (test w)
here-chosen S4 S w test = and-true (test w)
here-chosen S5 S w test = and-true (test w)
