-- How conditions are judged from world to world.
use Rattle.std.proofs.Common.{◌≡◌, ℕ, zero, suc, ◌+◌, ◌-◌, ◌<◌, ◌≤◌, List, [], ◌∷◌, length, map, drop, get_or, Bool, true, false, not, ◌&&◌, ◌==◌, Some, None, inl, inr, refl, sym, ◌∙◌, ap, add-one, drop-cons, arith, if◌then◌else◌}
use Rattle.std.specs.List.{list_all}
use Rattle.std.proofs.lemmas.Bool.{cases_Bool, cases_lt, eqb-true, and_right}
use Rattle.std.proofs.Math.ListN.{drop_of_length-le}
use Rattle.calculus.specs.declared.fault.StructureCause.{StructureCause}
use Rattle.calculus.specs.Structures.{Structure, has_element, numbers_from}
use Rattle.calculus.specs.StructureText.{Condition, at_worlds, first_broken}
use Rattle.finite_model.specs.Conditions.{IsFirstBroken}
use Rattle.finite_model.proofs.ConditionLaws.{world-next}

-- ---- tests of all numbers below a bound

pub below-on : (test : ℕ → Bool) (i n : ℕ) → i < n → test i ≡ true → list_all test (numbers_from i (n - i)) ≡ list_all test (numbers_from (i + 1) (n - (i + 1)))
below-on test i n h e = ap (list_all test) (world-next i n h) ∙ ap (λ b. b && list_all test (numbers_from (i + 1) (n - (i + 1)))) e

pub below-false : (test : ℕ → Bool) (i n : ℕ) → i < n → test i ≡ false → list_all test (numbers_from i (n - i)) ≡ false
below-false test i n h e = ap (list_all test) (world-next i n h) ∙ ap (λ b. b && list_all test (numbers_from (i + 1) (n - (i + 1)))) e

pub below-begun : (n : ℕ) → numbers_from 0 (n - 0) ≡ numbers_from 0 n
below-begun n = let e : n - 0 ≡ n = omega arith in ap (numbers_from 0) e

pub below-ended : (i n : ℕ) → n ≤ i → numbers_from i (n - i) ≡ []
below-ended i n h = let e : n - i ≡ 0 = omega arith in ap (numbers_from i) e

pub below-all : (test : ℕ → Bool) (a n : ℕ) → ((u : ℕ) → u < a + n → test u ≡ true) → list_all test (numbers_from a n) ≡ true
below-all test a zero h = refl
below-all test a (suc n) h = ap (λ b. b && list_all test (numbers_from (suc a) n)) (h a (omega arith)) ∙ below-all test (suc a) n (λ u lt. h u (omega arith))

pub below-one : (test : ℕ → Bool) (a n w k : ℕ) → w ≡ a + k → k < n → test w ≡ false → list_all test (numbers_from a n) ≡ false
below-one test a zero w k h lt e = absurd (omega arith)
below-one test a (suc n) w zero h lt e = let same : w ≡ a = omega arith in ap (λ b. b && list_all test (numbers_from (suc a) n)) (ap test (sym same) ∙ e)
below-one test a (suc n) w (suc k) h lt e = and_right (test a) (list_all test (numbers_from (suc a) n)) (below-one test (suc a) n w k (omega arith) (omega arith) e)

pub one-further : (test : ℕ → Bool) (i : ℕ) → ((u : ℕ) → u < i → test u ≡ true) → test i ≡ true → (u : ℕ) → u < i + 1 → test u ≡ true
one-further test i h e u lt = elim (cases_lt u i) [
  | inl below ↦ h u below
  | inr above ↦ (let same : u ≡ i = omega arith in ap test same ∙ e)
]

-- ---- conditions

-- the conditions on the worlds from i on, up to the world n
abbrev pub conditions_from : (ℕ → ℕ) → StructureCause → (ℕ → Bool) → ℕ → ℕ → List Condition
conditions_from line c test i n = map (λ w. record { line = line w; cause = c; holds = test w }) (numbers_from i (n - i))

from-next : (line : ℕ → ℕ) (c : StructureCause) (test : ℕ → Bool) (i n : ℕ) → i < n → first_broken (conditions_from line c test i n) ≡ (if test i then first_broken (conditions_from line c test (i + 1) n) else Some (record { line = line i; cause = c; holds = test i }))
from-next line c test i n h = ap (λ l. first_broken (map (λ w. record { line = line w; cause = c; holds = test w }) l)) (world-next i n h)

pub checks-on : (line : ℕ → ℕ) (c : StructureCause) (test : ℕ → Bool) (i n : ℕ) → i < n → test i ≡ true → first_broken (conditions_from line c test i n) ≡ first_broken (conditions_from line c test (i + 1) n)
checks-on line c test i n h e = from-next line c test i n h ∙ ap (λ b. if b then first_broken (conditions_from line c test (i + 1) n) else Some (record { line = line i; cause = c; holds = test i })) e

pub worlds-broken : (S : Structure) (line : ℕ → ℕ) (c why : StructureCause) (test : ℕ → Bool) (i n place : ℕ) → i < n → test i ≡ false → place ≡ line i → why ≡ c → first_broken (conditions_from line c test i n) ≡ first_broken (at_worlds S line c test) → IsFirstBroken (at_worlds S line c test) place why
worlds-broken S line c why test i n place h e at-line same before = record {
  condition = record { line = line i; cause = c; holds = test i };
  first = sym before ∙ from-next line c test i n h ∙ ap (λ b. if b then first_broken (conditions_from line c test (i + 1) n) else Some (record { line = line i; cause = c; holds = test i })) e;
  line = sym at-line;
  cause = sym same;
}

pub worlds-begun : (S : Structure) (line : ℕ → ℕ) (c : StructureCause) (test : ℕ → Bool) → first_broken (conditions_from line c test 0 (length S.successors)) ≡ first_broken (at_worlds S line c test)
worlds-begun S line c test = ap (λ l. first_broken (map (λ w. record { line = line w; cause = c; holds = test w }) l)) (below-begun (length S.successors))

pub worlds-hold : (S : Structure) (line : ℕ → ℕ) (c : StructureCause) (test : ℕ → Bool) (i n : ℕ) → n ≤ i → first_broken (conditions_from line c test i n) ≡ first_broken (at_worlds S line c test) → first_broken (at_worlds S line c test) ≡ None
worlds-hold S line c test i n h before = sym before ∙ ap (λ l. first_broken (map (λ w. record { line = line w; cause = c; holds = test w }) l)) (below-ended i n h)

more-than_none : (n : ℕ) → 0 < n → (n == 0) ≡ false
more-than_none n h = elim (cases_Bool (n == 0)) [
  | inl e ↦ (let k = eqb-true n 0 e in absurd (omega arith))
  | inr e ↦ e
]

-- whether a list has an element
pub element-there : (xs : List ℕ) (b : Bool) → b ≡ (length xs == 0) → not b ≡ has_element xs
element-there [] b e = ap not e
element-there (x ∷ xs) b e = ap not (e ∙ more-than_none (length (x ∷ xs)) (omega arith))

-- ---- lists of any items

item-next : {A : Type 0} (xs : List A) (i : ℕ) (d : A) → i < length xs → drop i xs ≡ get_or xs i d ∷ drop (i + 1) xs
item-next xs i d h = rw add-one (drop-cons xs i d h)

pub every-on : {A : Type 0} (test : A → Bool) (xs : List A) (i : ℕ) (d : A) → i < length xs → test (get_or xs i d) ≡ true → list_all test (drop i xs) ≡ list_all test (drop (i + 1) xs)
every-on test xs i d h e = ap (list_all test) (item-next xs i d h) ∙ ap (λ b. b && list_all test (drop (i + 1) xs)) e

pub every-false : {A : Type 0} (test : A → Bool) (xs : List A) (i : ℕ) (d : A) → i < length xs → test (get_or xs i d) ≡ false → list_all test (drop i xs) ≡ false
every-false test xs i d h e = ap (list_all test) (item-next xs i d h) ∙ ap (λ b. b && list_all test (drop (i + 1) xs)) e

pub every-end : {A : Type 0} (test : A → Bool) (xs : List A) (i : ℕ) → length xs ≤ i → list_all test (drop i xs) ≡ true
every-end test xs i h = ap (list_all test) (drop_of_length-le xs h)
