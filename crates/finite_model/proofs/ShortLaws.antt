-- Formulas with variables in place of their closed terms tell what the formulas do.
use Rattle.std.proofs.Common.{◌≡◌, ℕ, suc, ◌+◌, ◌*◌, ◌<◌, ◌≤◌, ◌-◌, List, [], ◌∷◌, ◌++◌, length, min, max, reverse, take, drop, get_or, Bool, false, refl, sym, ◌∙◌, ap, subst, arith, Result, slice_index, IsTrue}
use Rattle.std.proofs.Math.Nat.{le-max_left, le-max_right, max-le, zero-min}
use Rattle.std.proofs.lemmas.Bool.{false≢true}
use Rattle.std.proofs.lemmas.Bool.{leb-true}
use Rattle.std.proofs.lemmas.List.{get_or_append_left, get_or-append-add, get_or_past, get_or-reverse, get_or-take, length-take-le, take-append-le, take_all}
use Rattle.logic_rules.proofs.ProblemFacts.{kept}
use Rattle.calculus.specs.Problems.{is_problem, greatest_nesting}
use Rattle.calculus.specs.declared.setting.Logic.{Logic}
use Rattle.calculus.specs.Lists.{terms_tree}
use Rattle.calculus.specs.Measures.{nesting, term_nesting, terms_nesting}
use Rattle.calculus.specs.Structures.{Structure, successors_of, domain_of, place_from, place_of, predicate_value, term_value, term_values, from_here}
use Rattle.calculus.specs.StructureTruth.{told, chosen_worlds, with_step, not_told, either_told, each_told, some_told, told_at}
use Rattle.calculus.specs.Syntax.{Problem, Term, var, fun, eigen, spare, Formula, atom, neg, imp, all, ex, box, dia}
use Rattle.cop_base.specs.declared.ledger.Ledger.{Ledger}
use Rattle.finite_model.specs.Seeking.{IsTold}
use Rattle.finite_model.specs.Shortened.{AreElements, IsShortTerm, IsKnown, AreShort, IsShortFormula}
use Rattle.finite_model.specs.declared.shortening.ShortArgs.{ShortArgs}
use Rattle.finite_model.specs.declared.truth.StepsEnded.{StepsEnded}

max-both : (a b c d : ℕ) → a ≤ c → b ≤ d → max a b ≤ max c d
max-both a b c d h k = max-le (let x = le-max_left c d in omega (arith, h, x)) (let x = le-max_right c d in omega (arith, k, x))

-- ---- lists of terms with one more

values-push : (S : Structure) (env : List ℕ) (ts : List Term) (t : Term) → term_values S env (terms_tree (ts ++ t ∷ [])) ≡ term_values S env (terms_tree ts) ++ term_value S env t ∷ []
values-push S env [] t = refl
values-push S env (x ∷ ts) t = ap (λ vs. term_value S env x ∷ vs) (values-push S env ts t)

place-push : (e n : ℕ) (xs : List ℕ) (x : ℕ) → place_from e n (xs ++ x ∷ []) ≡ place_from e n xs * e + x
place-push e n [] x = refl
place-push e n (y ∷ xs) x = place-push e (n * e + y) xs x

nesting-most : (ts : List Term) (t : Term) (n : ℕ) → terms_nesting (terms_tree ts) ≤ n → term_nesting t ≤ n → terms_nesting (terms_tree (ts ++ t ∷ [])) ≤ n
nesting-most [] t n h k = max-le k h
nesting-most (x ∷ ts) t n h k =
    let a = le-max_left (term_nesting x) (terms_nesting (terms_tree ts)) in
    let b = le-max_right (term_nesting x) (terms_nesting (terms_tree ts)) in
    max-le (omega (arith, a, h)) (nesting-most ts t n (omega (arith, b, h)) k)

nesting-front : (ts : List Term) (t : Term) → terms_nesting (terms_tree ts) ≤ terms_nesting (terms_tree (ts ++ t ∷ []))
nesting-front [] t = omega arith
nesting-front (x ∷ ts) t = max-both (term_nesting x) (terms_nesting (terms_tree ts)) (term_nesting x) (terms_nesting (terms_tree (ts ++ t ∷ []))) (omega arith) (nesting-front ts t)

nesting-last : (ts : List Term) (t : Term) → term_nesting t ≤ terms_nesting (terms_tree (ts ++ t ∷ []))
nesting-last [] t = le-max_left (term_nesting t) 0
nesting-last (x ∷ ts) t = let a = nesting-last ts t in let b = le-max_right (term_nesting x) (terms_nesting (terms_tree (ts ++ t ∷ []))) in omega (arith, a, b)

nesting-push : (us ts : List Term) (u t : Term) → terms_nesting (terms_tree us) ≤ terms_nesting (terms_tree ts) → term_nesting u ≤ term_nesting t → terms_nesting (terms_tree (us ++ u ∷ [])) ≤ terms_nesting (terms_tree (ts ++ t ∷ []))
nesting-push us ts u t h k = let a = nesting-front ts t in let b = nesting-last ts t in nesting-most us u (terms_nesting (terms_tree (ts ++ t ∷ []))) (omega (arith, h, a)) (omega (arith, k, b))

some-nesting : (t : Term) → 1 ≤ term_nesting t
some-nesting (var k) = omega arith
some-nesting (fun f ts) = omega arith
some-nesting (eigen n) = omega arith
some-nesting (spare n) = omega arith

values-pushed : (S : Structure) (env els : List ℕ) (us ts : List Term) (u t : Term) → term_values S (env ++ els) (terms_tree us) ≡ term_values S env (terms_tree ts) → term_value S (env ++ els) u ≡ term_value S env t → term_values S (env ++ els) (terms_tree (us ++ u ∷ [])) ≡ term_values S env (terms_tree (ts ++ t ∷ []))
values-pushed S env els us ts u t h k = values-push S (env ++ els) us u ∙ (λ i. h i ++ k i ∷ []) ∙ sym (values-push S env ts t)

-- ---- terms

pub short-bound : (S : Structure) (d k : ℕ) → k < d → IsShortTerm S d (var k) (var k)
short-bound S d k lt = record { same = λ els h env e. get_or_append_left env els 0 k (omega (arith, e, lt)); nests = omega arith }

pub short-unbound : (S : Structure) (d k : ℕ) → d ≤ k → IsKnown S d (var k) 0
short-unbound S d k le = record { same = λ env e. get_or_past env k 0 (omega (arith, e, le)); byte = omega arith }

pub none-short : (S : Structure) (d : ℕ) (a : ShortArgs) → a.terms ≡ [] → a.place ≡ 0 → AreShort S d [] a
none-short S d a e p = record {
  same = λ els h env k. ap (λ us. term_values S (env ++ els) (terms_tree us)) e;
  nests = let n = ap (λ us. terms_nesting (terms_tree us)) e in omega (arith, n);
  known = λ known env k. p ∙ sym (zero-min 18446744073709551615);
}

pub known-put : (S : Structure) (d v : ℕ) (ts : List Term) (t : Term) (a b : ShortArgs) → AreShort S d ts a → IsKnown S d t v → b.terms ≡ a.terms ++ var (d + v) ∷ [] → b.is_known ≡ a.is_known → ((p : ℕ) → a.place ≡ min p 18446744073709551615 → b.place ≡ min (p * S.elements + v) 18446744073709551615) → AreShort S d (ts ++ t ∷ []) b
known-put S d v ts t a b h k terms known place = record {
  same = λ els g env e. ap (λ us. term_values S (env ++ els) (terms_tree us)) terms ∙ values-pushed S env els a.terms ts (var (d + v)) t (h.same els g env e) (at els g env e ∙ sym (k.same env e));
  nests = let n = ap (λ us. terms_nesting (terms_tree us)) terms in let m = nesting-push a.terms ts (var (d + v)) t h.nests (some-nesting t) in omega (arith, n, m);
  known = λ y env e. place (place_of S (term_values S env (terms_tree ts))) (h.known (sym known ∙ y) env e)
      ∙ ap (λ x. min (place_of S (term_values S env (terms_tree ts)) * S.elements + x) 18446744073709551615) (sym (k.same env e))
      ∙ ap (λ n. min n 18446744073709551615) (sym (ap (place_from S.elements 0) (values-push S env ts t) ∙ place-push S.elements 0 (term_values S env (terms_tree ts)) (term_value S env t)));
}
  where
    at : (els : List ℕ) → AreElements els → (env : List ℕ) → length env ≡ d → slice_index (env ++ els) (d + v) ≡ v
    at els g env e = ap (λ n. slice_index (env ++ els) (n + v)) (sym e) ∙ get_or-append-add env els v 0 ∙ g v k.byte

pub open-put : (S : Structure) (d : ℕ) (ts : List Term) (t u : Term) (a b : ShortArgs) → AreShort S d ts a → IsShortTerm S d t u → b.terms ≡ a.terms ++ u ∷ [] → b.is_known ≡ false → AreShort S d (ts ++ t ∷ []) b
open-put S d ts t u a b h k terms known = record {
  same = λ els g env e. ap (λ us. term_values S (env ++ els) (terms_tree us)) terms ∙ values-pushed S env els a.terms ts u t (h.same els g env e) (k.same els g env e);
  nests = let n = ap (λ us. terms_nesting (terms_tree us)) terms in let m = nesting-push a.terms ts u t h.nests k.nests in omega (arith, n, m);
  known = λ y. absurd (false≢true (sym known ∙ y));
}

-- ---- formulas

pub short-atom : (S : Structure) (d p : ℕ) (ts : List Term) (a : ShortArgs) → AreShort S d ts a → IsShortFormula S d (atom p (terms_tree ts)) (atom p (terms_tree a.terms))
short-atom S d p ts a h = record {
  same = λ l els g env e w. ap (λ vs. with_step (told (from_here l S w (λ v. predicate_value S p v vs)))) (h.same els g env e);
  nests = let n = h.nests in omega (arith, n);
}

pub short-not : (S : Structure) (d : ℕ) (a b : Formula) → IsShortFormula S d a b → IsShortFormula S d (neg a) (neg b)
short-not S d a b h = record {
  same = λ l els g env e w. λ i. with_step (each_told (λ v. not_told (h.same l els g env e v i)) (chosen_worlds l S w));
  nests = let n = h.nests in omega (arith, n);
}

pub short-imp : (S : Structure) (d : ℕ) (a b x y : Formula) → IsShortFormula S d a x → IsShortFormula S d b y → IsShortFormula S d (imp a b) (imp x y)
short-imp S d a b x y h k = record {
  same = λ l els g env e w. λ i. with_step (each_told (λ v. either_told (not_told (h.same l els g env e v i)) (k.same l els g env e v i)) (chosen_worlds l S w));
  nests = let n = max-both (nesting x) (nesting y) (nesting a) (nesting b) h.nests k.nests in omega (arith, n);
}

pub short-all : (S : Structure) (d m : ℕ) (a b : Formula) → m ≡ suc d → IsShortFormula S m a b → IsShortFormula S d (all a) (all b)
short-all S d m a b s h = record {
  same = λ l els g env e w. λ i. with_step (each_told (λ v. each_told (λ x. h.same l els g (x ∷ env) (ap suc e ∙ sym s) v i) (domain_of S v)) (chosen_worlds l S w));
  nests = let n = h.nests in omega (arith, n);
}

pub short-ex : (S : Structure) (d m : ℕ) (a b : Formula) → m ≡ suc d → IsShortFormula S m a b → IsShortFormula S d (ex a) (ex b)
short-ex S d m a b s h = record {
  same = λ l els g env e w. λ i. with_step (some_told (λ x. h.same l els g (x ∷ env) (ap suc e ∙ sym s) w i) (domain_of S w));
  nests = let n = h.nests in omega (arith, n);
}

pub short-box : (S : Structure) (d : ℕ) (a b : Formula) → IsShortFormula S d a b → IsShortFormula S d (box a) (box b)
short-box S d a b h = record {
  same = λ l els g env e w. λ i. with_step (each_told (λ v. h.same l els g env e v i) (successors_of S w));
  nests = let n = h.nests in omega (arith, n);
}

pub short-dia : (S : Structure) (d : ℕ) (a b : Formula) → IsShortFormula S d a b → IsShortFormula S d (dia a) (dia b)
short-dia S d a b h = record {
  same = λ l els g env e w. λ i. with_step (some_told (λ v. h.same l els g env e v i) (successors_of S w));
  nests = let n = h.nests in omega (arith, n);
}

-- a formula that is one of these by its form
pub short-form : (S : Structure) (d : ℕ) (f g h k : Formula) → f ≡ g → k ≡ h → IsShortFormula S d g h → IsShortFormula S d f k
short-form S d f g h k e q x = subst (λ z. IsShortFormula S d z k) (sym e) (subst (IsShortFormula S d g) (sym q) x)

-- ---- at the root

pub root-told : (l : Logic) (S : Structure) (f g : Formula) (els : List ℕ) (n : ℕ) (r : Result Bool StepsEnded) (led : Ledger) → IsShortFormula S 0 f g → AreElements els → IsTold r led (told_at l S g els 0 n) → IsTold r led (told_at l S f [] 0 n)
root-told l S f g els n r led h e t = subst (IsTold r led) (ap (λ go. go n) (h.same l els e [] refl 0)) t

pub few-levels : (P : Problem) (f : Formula) → IsTrue (is_problem P) → f ≡ P.formula → nesting f ≤ 1100
few-levels P f h e = let n = leb-true (nesting P.formula) greatest_nesting (kept P h).nests in let same : nesting f ≡ nesting P.formula = ap nesting e in rw same n

-- ---- the elements stand from the last one down at the beginning of a list

pub elements-told : (xs : List ℕ) → 256 ≤ length xs → ((k : ℕ) → k < 256 → get_or xs k 0 ≡ 255 - k) → AreElements (reverse (take 256 xs))
elements-told xs long at = λ v lt.
    let n = length-take-le 256 xs long in
    let same : length (take 256 xs) - 1 - v ≡ 255 - v = omega (arith, n) in
    let back : 255 - (255 - v) ≡ v = omega (arith, lt) in
    get_or-reverse (take 256 xs) v 0 (omega (arith, n, lt)) ∙ ap (λ k. get_or (take 256 xs) k 0) same ∙ get_or-take 256 xs (255 - v) 0 (omega (arith, lt)) ∙ at (255 - v) (omega (arith, lt)) ∙ back

pub elements-written : (old new : List ℕ) (n : ℕ) → length new ≡ n → AreElements (reverse (take 256 new)) → AreElements (reverse (take 256 (take n (new ++ drop (length new) old))))
elements-written old new n e h = subst (λ xs. AreElements (reverse (take 256 xs))) (sym (take-append-le n new (drop (length new) old) (omega arith) ∙ take_all n new (omega arith))) h
