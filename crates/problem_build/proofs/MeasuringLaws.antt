-- Formulas are measured one by one: what is found is whether one of them is too deep, and else their nodes together.
use Rattle.std.proofs.Common.{◌≡◌, ℕ, zero, suc, ◌+◌, ◌<◌, ◌≤◌, Bool, true, false, ◌&&◌, List, [], ◌∷◌, ◌++◌, Option, None, Some, length, map, min, drop, slice_get, if◌then◌else◌, refl, sym, ◌∙◌, ap, arith, append_assoc}
use Rattle.std.specs.Prelude.{nat_le}
use Rattle.std.proofs.lemmas.Bool.{le-leb, lt-leb}
use Rattle.std.proofs.lemmas.List.{append-nil, drop_all}
use Rattle.calculus.specs.declared.symbol.SymbolClass.{SymbolClass}
use Rattle.calculus.specs.declared.symbol.SymbolClass.TheVariants.{Function, Predicate, Equality, Truth}
use Rattle.calculus.specs.Measures.{nesting, node_count}
use Rattle.calculus.specs.Syntax.{Symbol, Formula}
use Rattle.problem_build.specs.declared.axioms.Sort.{Sort}
use Rattle.problem_build.specs.declared.axioms.Sort.TheVariants.{Functions, Predicates}
use Rattle.problem_build.specs.EqualityAxioms.{congruence_of_function, congruence_of_predicate, equality_axioms, for_all_times, for_each, function_axiom, predicate_axiom}
use Rattle.problem_build.specs.Measuring.{both_nodes, congruence_of, first_measured, flat_nodes, joined_nodes, measured, second_of}
use Rattle.problem_build.specs.Building.{are_flat}
use Rattle.problem_build.proofs.BalanceLaws.{total}
use Rattle.problem_build.proofs.JoinedLaws.{first_nodes}

-- ---- lists of formulas

pub measured-capped : (fs : List Formula) → both_nodes (Some 0) (measured fs) ≡ measured fs
measured-capped [] = ap Some (omega arith)
measured-capped (f ∷ fs) = by (flat_nodes f) (measured fs)
  where
    by : (a b : Option ℕ) → both_nodes (Some 0) (joined_nodes a b) ≡ joined_nodes a b
    by None b = refl
    by (Some a) None = refl
    by (Some a) (Some b) = ap Some (omega arith)

pub measured-append : (xs ys : List Formula) → measured (xs ++ ys) ≡ both_nodes (measured xs) (measured ys)
measured-append [] ys = sym (measured-capped ys)
measured-append (x ∷ xs) ys = ap (joined_nodes (flat_nodes x)) (measured-append xs ys) ∙ by (flat_nodes x) (measured xs) (measured ys)
  where
    by : (a b c : Option ℕ) → joined_nodes a (both_nodes b c) ≡ both_nodes (joined_nodes a b) c
    by None b c = refl
    by (Some a) None c = refl
    by (Some a) (Some b) None = refl
    by (Some a) (Some b) (Some c) = ap Some (omega arith)

pub both-more : (a b c : Option ℕ) → both_nodes a (both_nodes b c) ≡ both_nodes (both_nodes a b) c
both-more None b c = refl
both-more (Some a) None c = refl
both-more (Some a) (Some b) None = refl
both-more (Some a) (Some b) (Some c) = ap Some (omega arith)

-- ---- one formula

pub flat-some : (f : Formula) (n m : ℕ) → n ≡ min (nesting f) 18446744073709551615 → n ≤ 1000 → m ≡ min (node_count f) 4000001 → Some m ≡ flat_nodes f
flat-some f n m p h q =
    ap Some q ∙ sym (ap (λ b. if b then Some (min (node_count f) 4000001) else None) (le-leb (nesting f) 1000 (omega arith)))

pub flat-none : (f : Formula) (n : ℕ) → n ≡ min (nesting f) 18446744073709551615 → 1000 < n → None ≡ flat_nodes f
flat-none f n p h = sym (ap (λ b. if b then Some (min (node_count f) 4000001) else None) (lt-leb (nesting f) 1000 (omega arith)))

pub ruleset flat = (flat-some, flat-none)

pub listed-some : (f : Formula) (n r : ℕ) → Some n ≡ flat_nodes f → r ≡ min (1 + n) 4000001 → Some r ≡ measured (f ∷ [])
listed-some f n r h k = let v : r ≡ min (suc n + 0) 4000001 = omega arith in ap Some v ∙ ap (λ m. joined_nodes m (Some 0)) h

pub listed-none : (f : Formula) → None ≡ flat_nodes f → None ≡ measured (f ∷ [])
listed-none f h = ap (λ m. joined_nodes m (Some 0)) h

pub ruleset single = (listed-some, listed-none)

-- ---- axioms, premises and conjecture

pub deep-first : (a b c : Option ℕ) → None ≡ a → None ≡ both_nodes (both_nodes a b) c
deep-first a b c h = ap (λ o. both_nodes (both_nodes o b) c) h

pub deep-second : (a b c : Option ℕ) (m : ℕ) → Some m ≡ a → None ≡ b → None ≡ both_nodes (both_nodes a b) c
deep-second a b c m h k = λ i. both_nodes (both_nodes (h i) (k i)) c

pub deep-third : (a b c : Option ℕ) (m n : ℕ) → Some m ≡ a → Some n ≡ b → None ≡ c → None ≡ both_nodes (both_nodes a b) c
deep-third a b c m n h k l = λ i. both_nodes (both_nodes (h i) (k i)) (l i)

pub none-deep : (a b c : Option ℕ) (m n k s r : ℕ) → Some m ≡ a → Some n ≡ b → Some k ≡ c → s ≡ min (m + n) 4000001 → r ≡ min (s + k) 4000001
    → Some r ≡ both_nodes (both_nodes a b) c
none-deep a b c m n k s r h i j e d =
    let v : r ≡ min (min (m + n) 4000001 + k) 4000001 = omega arith in ap Some v ∙ (λ x. both_nodes (both_nodes (h x) (i x)) (j x))

pub ruleset three = (deep-first, deep-second, deep-third, none-deep)

-- ---- axioms of congruence

pub next-symbol : (ss : List Symbol) (i : ℕ) (s : Symbol) → slice_get ss i ≡ Some s → drop i ss ≡ s ∷ drop (suc i) ss
next-symbol [] i s e = absurd (cc)
next-symbol (x ∷ xs) zero s e = let h : x ≡ s = cc in ap (λ y. y ∷ xs) h
next-symbol (x ∷ xs) (suc i) s e = next-symbol xs i s e

pub rest-of : (axioms : ℕ → SymbolClass → ℕ → List Formula) (ss : List Symbol) (i n : ℕ) (s : Symbol) → slice_get ss i ≡ Some s → n ≡ suc i
    → for_each axioms i (drop i ss) ≡ axioms i s.class s.arity ++ for_each axioms n (drop n ss)
rest-of axioms ss i n s e k =
    ap (for_each axioms i) (next-symbol ss i s e) ∙ ap (λ m. axioms i s.class s.arity ++ for_each axioms m (drop m ss)) (sym k)

-- one symbol more whose axioms are listed
pub listed-step : (axioms : ℕ → SymbolClass → ℕ → List Formula) (ss : List Symbol) (i n : ℕ) (s : Symbol) (done more whole : List Formula)
    → slice_get ss i ≡ Some s → n ≡ suc i → more ≡ axioms i s.class s.arity → done ++ for_each axioms i (drop i ss) ≡ whole
    → (done ++ more) ++ for_each axioms n (drop n ss) ≡ whole
listed-step axioms ss i n s done more whole e k p q =
    append_assoc done more (for_each axioms n (drop n ss)) ∙ ap (λ fs. done ++ (fs ++ for_each axioms n (drop n ss))) p
    ∙ ap (λ fs. done ++ fs) (sym (rest-of axioms ss i n s e k)) ∙ q

-- one symbol more whose axioms are measured
pub measured-step : (axioms : ℕ → SymbolClass → ℕ → List Formula) (ss : List Symbol) (i n : ℕ) (s : Symbol) (done : Option ℕ) (more : Option ℕ) (whole : Option ℕ)
    → slice_get ss i ≡ Some s → n ≡ suc i → more ≡ measured (axioms i s.class s.arity) → both_nodes done (measured (for_each axioms i (drop i ss))) ≡ whole
    → both_nodes (both_nodes done more) (measured (for_each axioms n (drop n ss))) ≡ whole
measured-step axioms ss i n s done more whole e k p q =
    sym (both-more done more (measured (for_each axioms n (drop n ss)))) ∙ ap (λ m. both_nodes done (both_nodes m (measured (for_each axioms n (drop n ss))))) p
    ∙ ap (both_nodes done) (sym (measured-append (axioms i s.class s.arity) (for_each axioms n (drop n ss))))
    ∙ ap (λ fs. both_nodes done (measured fs)) (sym (rest-of axioms ss i n s e k)) ∙ q

-- all symbols are done
pub listed-end : (axioms : ℕ → SymbolClass → ℕ → List Formula) (ss : List Symbol) (i : ℕ) (done whole : List Formula)
    → length ss ≤ i → done ++ for_each axioms i (drop i ss) ≡ whole → done ≡ whole
listed-end axioms ss i done whole h e = sym (append-nil done) ∙ ap (λ ts. done ++ for_each axioms i ts) (sym (drop_all i ss h)) ∙ e

pub measured-end : (axioms : ℕ → SymbolClass → ℕ → List Formula) (ss : List Symbol) (i done : ℕ) (whole : Option ℕ)
    → length ss ≤ i → done ≤ 4000001 → both_nodes (Some done) (measured (for_each axioms i (drop i ss))) ≡ whole → Some done ≡ whole
measured-end axioms ss i done whole h few e =
    let n : done ≡ min (done + 0) 4000001 = omega arith in
    ap Some n ∙ ap (λ ts. both_nodes (Some done) (measured (for_each axioms i ts))) (sym (drop_all i ss h)) ∙ e

pub step-deep : (axioms : ℕ → SymbolClass → ℕ → List Formula) (ss : List Symbol) (i : ℕ) (s : Symbol) (done : ℕ) (whole : Option ℕ)
    → slice_get ss i ≡ Some s → None ≡ measured (axioms i s.class s.arity) → both_nodes (Some done) (measured (for_each axioms i (drop i ss))) ≡ whole → None ≡ whole
step-deep axioms ss i s done whole e p q = measured-step axioms ss i (suc i) s (Some done) None whole e refl p q

pub none-without : (sort : Sort) (symbols : List Symbol) (k : ℕ) (c : SymbolClass) (n : ℕ) → n ≡ 0 → [] ≡ congruence_of sort symbols k c n
none-without Functions symbols k Function zero e = refl
none-without Functions symbols k Predicate zero e = refl
none-without Functions symbols k Equality zero e = refl
none-without Functions symbols k Truth zero e = refl
none-without Predicates symbols k Function zero e = refl
none-without Predicates symbols k Predicate zero e = refl
none-without Predicates symbols k Equality zero e = refl
none-without Predicates symbols k Truth zero e = refl
none-without sort symbols k c (suc n) e = absurd (omega arith)

pub one-function : (symbols : List Symbol) (k : ℕ) (c : SymbolClass) (n : ℕ) (f : Formula) → c ≡ Function → 1 ≤ n → f ≡ function_axiom symbols k n → f ∷ [] ≡ congruence_of_function symbols k c n
one-function symbols k Function zero f e h p = absurd (omega arith)
one-function symbols k Function (suc n) f e h p = ap (λ g. g ∷ []) p
one-function symbols k Predicate n f e h p = absurd (cc)
one-function symbols k Equality n f e h p = absurd (cc)
one-function symbols k Truth n f e h p = absurd (cc)

pub one-predicate : (symbols : List Symbol) (k : ℕ) (c : SymbolClass) (n : ℕ) (f : Formula) → c ≡ Predicate → 1 ≤ n → f ≡ predicate_axiom symbols k n → f ∷ [] ≡ congruence_of_predicate symbols k c n
one-predicate symbols k Predicate zero f e h p = absurd (omega arith)
one-predicate symbols k Predicate (suc n) f e h p = ap (λ g. g ∷ []) p
one-predicate symbols k Function n f e h p = absurd (cc)
one-predicate symbols k Equality n f e h p = absurd (cc)
one-predicate symbols k Truth n f e h p = absurd (cc)

pub ruleset congruent = (none-without, one-function, one-predicate)

-- ---- symbols with too many arguments

times-nesting : (n : ℕ) (f : Formula) → nesting (for_all_times n f) ≡ n + nesting f
times-nesting zero f = omega arith
times-nesting (suc n) f = let h = times-nesting n f in omega arith

deep : (f : Formula) → 1000 < nesting f → None ≡ measured (f ∷ [])
deep f h = sym (ap (λ b. joined_nodes (if b then Some (min (node_count f) 4000001) else None) (Some 0)) (lt-leb (nesting f) 1000 h))

times-deep : (n : ℕ) (f : Formula) → 500 < n → None ≡ measured (for_all_times (n + n) f ∷ [])
times-deep n f h = let k = times-nesting (n + n) f in deep (for_all_times (n + n) f) (omega arith)

pub function-deep : (symbols : List Symbol) (k : ℕ) (c : SymbolClass) (n : ℕ) → c ≡ Function → 500 < n → None ≡ measured (congruence_of Functions symbols k c n)
function-deep symbols k Function zero e h = absurd (omega arith)
function-deep symbols k Function (suc n) e h = times-deep (suc n) _ h
function-deep symbols k Predicate n e h = absurd (cc)
function-deep symbols k Equality n e h = absurd (cc)
function-deep symbols k Truth n e h = absurd (cc)

pub predicate-deep : (symbols : List Symbol) (k : ℕ) (c : SymbolClass) (n : ℕ) → c ≡ Predicate → 500 < n → None ≡ measured (congruence_of Predicates symbols k c n)
predicate-deep symbols k Predicate zero e h = absurd (omega arith)
predicate-deep symbols k Predicate (suc n) e h = times-deep (suc n) _ h
predicate-deep symbols k Function n e h = absurd (cc)
predicate-deep symbols k Equality n e h = absurd (cc)
predicate-deep symbols k Truth n e h = absurd (cc)

pub ruleset wide = (function-deep, predicate-deep)

-- ---- all axioms

pub axioms-measured : (symbols : List Symbol) → measured (equality_axioms symbols)
    ≡ both_nodes (Some 30) (both_nodes (measured (for_each (congruence_of Functions symbols) 0 symbols)) (measured (for_each (congruence_of Predicates symbols) 0 symbols)))
axioms-measured symbols =
    ap (λ m. joined_nodes (Some 4) (joined_nodes (Some 9) (joined_nodes (Some 14) m)))
    (measured-append (for_each (congruence_of Functions symbols) 0 symbols) (for_each (congruence_of Predicates symbols) 0 symbols))
    ∙ by (both_nodes (measured (for_each (congruence_of Functions symbols) 0 symbols)) (measured (for_each (congruence_of Predicates symbols) 0 symbols)))
  where
    by : (m : Option ℕ) → joined_nodes (Some 4) (joined_nodes (Some 9) (joined_nodes (Some 14) m)) ≡ both_nodes (Some 30) m
    by None = refl
    by (Some m) = ap Some (omega arith)

pub axioms-deep_functions : (symbols : List Symbol) → None ≡ measured (for_each (congruence_of Functions symbols) 0 symbols) → None ≡ measured (equality_axioms symbols)
axioms-deep_functions symbols h =
    ap (λ m. both_nodes (Some 30) (both_nodes m (measured (for_each (congruence_of Predicates symbols) 0 symbols)))) h ∙ sym (axioms-measured symbols)

pub axioms-deep_predicates : (symbols : List Symbol) (n : ℕ) → Some n ≡ measured (for_each (congruence_of Functions symbols) 0 symbols)
    → None ≡ measured (for_each (congruence_of Predicates symbols) 0 symbols) → None ≡ measured (equality_axioms symbols)
axioms-deep_predicates symbols n h k = (λ i. both_nodes (Some 30) (both_nodes (h i) (k i))) ∙ sym (axioms-measured symbols)

pub axioms-counted : (symbols : List Symbol) (m n t r : ℕ) → Some m ≡ measured (for_each (congruence_of Functions symbols) 0 symbols)
    → Some n ≡ measured (for_each (congruence_of Predicates symbols) 0 symbols) → t ≡ min (m + n) 4000001 → r ≡ min (30 + t) 4000001
    → Some r ≡ measured (equality_axioms symbols)
axioms-counted symbols m n t r h k e d =
    let v : r ≡ min (30 + min (m + n) 4000001) 4000001 = omega arith in
    ap Some v ∙ (λ i. both_nodes (Some 30) (both_nodes (h i) (k i))) ∙ sym (axioms-measured symbols)

pub ruleset whole = (axioms-deep_functions, axioms-deep_predicates, axioms-counted)

-- ---- what is found

pub measured-is : (fs : List Formula) → measured fs ≡ (if are_flat fs then Some (min (total (map node_count fs)) 4000001) else None)
measured-is [] = ap Some (omega arith)
measured-is (f ∷ fs) = ap (joined_nodes (flat_nodes f)) (measured-is fs) ∙ by (nat_le (nesting f) 1000) (are_flat fs)
  where
    by : (a b : Bool) → joined_nodes (if a then Some (min (node_count f) 4000001) else None) (if b then Some (min (total (map node_count fs)) 4000001) else None)
        ≡ (if a && b then Some (min (total (map node_count (f ∷ fs))) 4000001) else None)
    by false b = refl
    by true false = refl
    by true true = ap Some (omega arith)

pub first_measured-is : (cs : List Formula) → first_measured cs ≡ (if are_flat cs then Some (min (first_nodes cs) 4000001) else None)
first_measured-is [] = ap Some (omega arith)
first_measured-is (c ∷ cs) = ap (λ m. second_of m (flat_nodes c)) (measured-is cs) ∙ by (nat_le (nesting c) 1000) (are_flat cs)
  where
    by : (a b : Bool) → second_of (if b then Some (min (total (map node_count cs)) 4000001) else None) (if a then Some (min (node_count c) 4000001) else None)
        ≡ (if a && b then Some (min (node_count c) 4000001) else None)
    by false false = refl
    by false true = refl
    by true false = refl
    by true true = refl
