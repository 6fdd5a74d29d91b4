-- Laws that are here for the reader: nothing cites them. They say of definitions that one must believe what one would expect of them:
-- in intuitionistic logic what is true at a world stays true at each of its successors (`truth-persists`); in one structure the
-- translation of a formula is true in S4 exactly where the formula is true in intuitionistic logic (`translation-truth`); and in a
-- structure that a text can state, a formula has no more ways than `most_ways` says (`ways-bounded`), which is 4,096 at one position.
use Rattle.std.proofs.Common.{◌≡◌, ℕ, suc, List, ◌∷◌, Bool, true, not, ◌||◌, IsTrue, inl, inr, ◌&&◌, refl, zero, ◌+◌, ◌*◌, ◌≤◌, [], length, false, map, nat_lt, nat_le, ltb-true, leb-true, sym, subst, arith, sum_by}
use Rattle.std.specs.List.{list_all, list_any}
use Rattle.std.proofs.lemmas.Bool.{false≢true, and_parts, and_from, or_cases, or_left, or_right}
use Rattle.calculus.specs.declared.setting.Logic.TheVariants.{Intuitionistic, S4, Classical, D, T as LogicT, S5}
use Rattle.calculus.specs.declared.setting.Domains.TheVariants.{Cumulative}
use Rattle.calculus.specs.Syntax.{Symbol, Formula, atom, neg, conj, disj, imp, all, ex, box, dia, Problem}
use Rattle.calculus.specs.Problems.{formula_fits}
use Rattle.calculus.specs.Structures.{Structure, successors_of, domain_of, is_transitive_relation, domains_fit, predicate_value, term_values, is_true_at, list_at}
use Rattle.calculus.proofs.MemberLaws.{all-contained, all-from_each, passing, any-from_one}
use Rattle.calculus.proofs.StructureLaws.{IsWorld, Reaches, reaches-on, larger-domain}
use Rattle.calculus.specs.Translation.{translation_of}
use Rattle.std.proofs.lemmas.List.Sums.{sum_by-cons}
use Rattle.std.proofs.lemmas.Nat.{mul-le}
use Rattle.calculus.specs.declared.setting.Logic.{Logic}
use Rattle.calculus.specs.DerivationText.{rises_from}
use Rattle.calculus.specs.StructureText.{rises, can_be_stated}
use Rattle.calculus.proofs.StructureTextUnique.{stated-parts}
use Rattle.calculus.specs.StructureTruth.{chosen_worlds, ways_at, ways}

-- ---- intuitionistic truth stays

at-each_successor : (S : Structure) → IsTrue (is_transitive_relation S) → (p : ℕ → Bool) (w v : ℕ) → IsWorld S w → Reaches S w v → list_all p (successors_of S w) ≡ true → list_all p (successors_of S v) ≡ true
at-each_successor S transitive p w v world reached h = all-from_each p (successors_of S v) (λ u on. all-contained p (successors_of S w) u h (reaches-on S transitive w v u world reached on))

pub truth-persists : (S : Structure) → IsTrue (is_transitive_relation S) → IsTrue (domains_fit Cumulative S) → (symbols : List Symbol) (d : ℕ) (a : Formula) → formula_fits Intuitionistic symbols d a ≡ true → (env : List ℕ) (w v : ℕ) → IsWorld S w → Reaches S w v → is_true_at Intuitionistic S a env w ≡ true → is_true_at Intuitionistic S a env v ≡ true
truth-persists S transitive grow symbols d (atom p ts) fits env w v world reached h = at-each_successor S transitive (λ u. predicate_value S p u (term_values S env ts)) w v world reached h
truth-persists S transitive grow symbols d (neg a) fits env w v world reached h = at-each_successor S transitive (λ u. not (is_true_at Intuitionistic S a env u)) w v world reached h
truth-persists S transitive grow symbols d (conj a b) fits env w v world reached h =
    let fit = and_parts (formula_fits Intuitionistic symbols d a) (formula_fits Intuitionistic symbols d b) fits in
    let parts = and_parts (is_true_at Intuitionistic S a env w) (is_true_at Intuitionistic S b env w) h in
    and_from (is_true_at Intuitionistic S a env v) (is_true_at Intuitionistic S b env v) (truth-persists S transitive grow symbols d a fit.0 env w v world reached parts.0) (truth-persists S transitive grow symbols d b fit.1 env w v world reached parts.1)
truth-persists S transitive grow symbols d (disj a b) fits env w v world reached h =
    let fit = and_parts (formula_fits Intuitionistic symbols d a) (formula_fits Intuitionistic symbols d b) fits in
    elim (or_cases (is_true_at Intuitionistic S a env w) (is_true_at Intuitionistic S b env w) h) [
      | inl e ↦ or_left (is_true_at Intuitionistic S a env v) (is_true_at Intuitionistic S b env v) (truth-persists S transitive grow symbols d a fit.0 env w v world reached e)
      | inr e ↦ or_right (is_true_at Intuitionistic S a env v) (is_true_at Intuitionistic S b env v) (truth-persists S transitive grow symbols d b fit.1 env w v world reached e)
    ]
truth-persists S transitive grow symbols d (imp a b) fits env w v world reached h = at-each_successor S transitive (λ u. not (is_true_at Intuitionistic S a env u) || is_true_at Intuitionistic S b env u) w v world reached h
truth-persists S transitive grow symbols d (all a) fits env w v world reached h = at-each_successor S transitive (λ u. list_all (λ x. is_true_at Intuitionistic S a (x ∷ env) u) (domain_of S u)) w v world reached h
truth-persists S transitive grow symbols d (ex a) fits env w v world reached h =
    let found = passing (λ x. is_true_at Intuitionistic S a (x ∷ env) w) (domain_of S w) h in
    any-from_one (λ x. is_true_at Intuitionistic S a (x ∷ env) v) (domain_of S v) found.0 (larger-domain S grow w v found.0 world reached found.1) (truth-persists S transitive grow symbols (suc d) a fits (found.0 ∷ env) w v world reached found.2)
truth-persists S transitive grow symbols d (box a) fits env w v world reached h = absurd (false≢true fits)
truth-persists S transitive grow symbols d (dia a) fits env w v world reached h = absurd (false≢true fits)

-- ---- it is that of the translation in S4

pub translation-truth : (S : Structure) (a : Formula) (env : List ℕ) (w : ℕ) → is_true_at S4 S (translation_of a) env w ≡ is_true_at Intuitionistic S a env w
translation-truth S (atom p ts) env w = refl
translation-truth S (neg a) env w = λ i. list_all (λ v. not (translation-truth S a env v i)) (successors_of S w)
translation-truth S (conj a b) env w = λ i. translation-truth S a env w i && translation-truth S b env w i
translation-truth S (disj a b) env w = λ i. translation-truth S a env w i || translation-truth S b env w i
translation-truth S (imp a b) env w = λ i. list_all (λ v. not (translation-truth S a env v i) || translation-truth S b env v i) (successors_of S w)
translation-truth S (all a) env w = λ i. list_all (λ v. list_all (λ x. translation-truth S a (x ∷ env) v i) (domain_of S v)) (successors_of S w)
translation-truth S (ex a) env w = λ i. list_any (λ x. translation-truth S a (x ∷ env) w i) (domain_of S w)
translation-truth S (box a) env w = λ i. list_all (λ v. translation-truth S a env v i) (successors_of S w)
translation-truth S (dia a) env w = λ i. list_any (λ v. translation-truth S a env v i) (successors_of S w)

-- ---- there are not too many ways: 4,096 worlds and elements together are chosen at one position at most

-- a list that rises within n has n items at most
rising-short : (n a : ℕ) (xs : List ℕ) → a ≤ n → IsTrue (rises_from a (map suc xs)) → IsTrue (list_all (λ x. nat_lt x n) xs) → length xs + a ≤ n
rising-short n a [] le h k = omega (arith, le)
rising-short n a (x ∷ xs) le h k =
    let p = and_parts (nat_lt a (suc x)) (rises_from (suc x) (map suc xs)) h in
    let q = and_parts (nat_lt x n) (list_all (λ y. nat_lt y n) xs) k in
    let above = ltb-true a (suc x) p.0 in
    let within = ltb-true x n q.0 in
    let rest = rising-short n (suc x) xs (omega (arith, within)) p.1 q.1 in
    omega (arith, above, rest)

-- each list of worlds or elements
lists-short : (n : ℕ) (xss : List (List ℕ)) → n ≤ 64 → IsTrue (list_all rises xss) → IsTrue (list_all (λ xs. list_all (λ x. nat_lt x n) xs) xss) → (w : ℕ) → length (list_at xss w) ≤ 64
lists-short n [] le h k w = omega arith
lists-short n (xs ∷ xss) le h k zero =
    let p = and_parts (rises xs) (list_all rises xss) h in
    let q = and_parts (list_all (λ x. nat_lt x n) xs) (list_all (λ ys. list_all (λ x. nat_lt x n) ys) xss) k in
    let short = rising-short n 0 xs (omega arith) p.0 q.0 in
    omega (arith, short, le)
lists-short n (xs ∷ xss) le h k (suc w) = lists-short n xss le (and_parts (rises xs) (list_all rises xss) h).1 (and_parts (list_all (λ x. nat_lt x n) xs) (list_all (λ ys. list_all (λ x. nat_lt x n) ys) xss) k).1 w

-- what a structure that can be stated keeps small
pub record SmallLists (S : Structure) : Type 0 where
  pub successors : (w : ℕ) → length (successors_of S w) ≤ 64
  pub domains : (w : ℕ) → length (domain_of S w) ≤ 64

pub stated-small : (P : Problem) (S : Structure) → IsTrue (can_be_stated P S) → SmallLists S
stated-small P S h =
    let p = stated-parts P S h in
    let size = leb-true (length S.successors) 64 (and_parts (nat_le 1 (length S.successors)) (nat_le (length S.successors) 64) p.size).1 in
    let elements = leb-true S.elements 64 (and_parts (nat_le 1 S.elements) (nat_le S.elements 64) p.elements).1 in
    record {
      successors = lists-short (length S.successors) S.successors size p.rising_successors p.relation;
      domains = lists-short S.elements S.domains elements p.rising_domains p.domains;
    }

-- the most ways that a formula can have, whatever the structure is
abbrev pub most_ways : Formula → ℕ
most_ways (atom p ts) = 1
most_ways (neg a) = 1 + 4096 * most_ways a
most_ways (conj a b) = 1 + (most_ways a + most_ways b)
most_ways (disj a b) = 1 + (most_ways a + most_ways b)
most_ways (imp a b) = 1 + 4096 * (most_ways a + most_ways b)
most_ways (all a) = 1 + 4096 * most_ways a
most_ways (ex a) = 1 + 4096 * most_ways a
most_ways (box a) = 1 + 4096 * most_ways a
most_ways (dia a) = 1 + 4096 * most_ways a

each-below : {A : Type 0} (f : A → ℕ) (m : ℕ) → ((x : A) → f x ≤ m) → (k : ℕ) (xs : List A) → length xs ≤ k → sum_by f xs ≤ k * m
each-below f m h k [] le = omega arith
each-below f m h zero (x ∷ xs) le = absurd (omega (arith, le))
each-below f m h (suc k) (x ∷ xs) le =
    let one = h x in
    let rest = each-below f m h k xs (omega (arith, le)) in
    subst (λ n. n ≤ suc k * m) (sym (sum_by-cons f x xs)) (omega (arith, one, rest))

chosen-short : (l : Logic) (S : Structure) → SmallLists S → (w : ℕ) → length (chosen_worlds l S w) ≤ 64
chosen-short Intuitionistic S small w = small.successors w
chosen-short Classical S small w = omega arith
chosen-short D S small w = omega arith
chosen-short LogicT S small w = omega arith
chosen-short S4 S small w = omega arith
chosen-short S5 S small w = omega arith

times-below : (a m n : ℕ) → a ≤ 64 → m ≤ n → a * m ≤ 64 * n
times-below a m n h k = mul-le a m 64 n h k

-- no formula has more ways
pub ways-most : (l : Logic) (S : Structure) → SmallLists S → (f : Formula) (w : ℕ) → ways_at l S f w ≤ most_ways f
ways-most l S small (atom p ts) w = omega arith
ways-most l S small (neg a) w =
    let each = each-below (ways_at l S a) (most_ways a) (ways-most l S small a) 64 (chosen_worlds l S w) (chosen-short l S small w) in
    omega (arith, each)
ways-most l S small (conj a b) w = let x = ways-most l S small a w in let y = ways-most l S small b w in omega (arith, x, y)
ways-most l S small (disj a b) w = let x = ways-most l S small a w in let y = ways-most l S small b w in omega (arith, x, y)
ways-most l S small (imp a b) w =
    let both : (v : ℕ) → ways_at l S a v + ways_at l S b v ≤ most_ways a + most_ways b = λ v. let x = ways-most l S small a v in let y = ways-most l S small b v in omega (arith, x, y) in
    let each = each-below (λ v. ways_at l S a v + ways_at l S b v) (most_ways a + most_ways b) both 64 (chosen_worlds l S w) (chosen-short l S small w) in
    omega (arith, each)
ways-most l S small (all a) w =
    let both : (v : ℕ) → length (domain_of S v) * ways_at l S a v ≤ 64 * most_ways a = λ v. times-below (length (domain_of S v)) (ways_at l S a v) (most_ways a) (small.domains v) (ways-most l S small a v) in
    let each = each-below (λ v. length (domain_of S v) * ways_at l S a v) (64 * most_ways a) both 64 (chosen_worlds l S w) (chosen-short l S small w) in
    omega (arith, each)
ways-most l S small (ex a) w =
    let each = times-below (length (domain_of S w)) (ways_at l S a w) (most_ways a) (small.domains w) (ways-most l S small a w) in
    omega (arith, each)
ways-most l S small (box a) w =
    let each = each-below (ways_at l S a) (most_ways a) (ways-most l S small a) 64 (successors_of S w) (small.successors w) in
    omega (arith, each)
ways-most l S small (dia a) w =
    let each = each-below (ways_at l S a) (most_ways a) (ways-most l S small a) 64 (successors_of S w) (small.successors w) in
    omega (arith, each)

pub ways-bounded : (P : Problem) (S : Structure) → IsTrue (can_be_stated P S) → ways P S ≤ most_ways P.formula
ways-bounded P S h = ways-most P.setting.logic S (stated-small P S h) P.formula 0
