-- What the limits of a problem lead to, where its formulas are measured; and a problem within them is one of the calculus.
use Rattle.std.proofs.Common.{◌≡◌, ℕ, suc, ◌+◌, ◌<◌, ◌≤◌, Bool, true, false, ◌&&◌, List, [], ◌∷◌, ◌++◌, Option, None, Some, length, map, min, IsTrue, if◌then◌else◌, refl, sym, ◌∙◌, ap, arith}
use Rattle.std.specs.Prelude.{nat_le, nat_lt, Ok, Err}
use Rattle.std.specs.List.{list_all}
use Rattle.std.proofs.lemmas.Bool.{and_parts, le-leb, le-ltb, leb-true, lt-ltb}
use Rattle.std.proofs.lemmas.List.Folds.{list_all-append}
use Rattle.calculus.specs.Measures.{nesting, node_count}
use Rattle.calculus.specs.Problems.{are_distinct, formula_fits, is_problem, setting_fits, symbol_fits}
use Rattle.calculus.specs.Syntax.{Symbol, Formula, neg, conj, imp, Setting, Problem}
use Rattle.problem_build.specs.Balance.{balanced}
use Rattle.problem_build.specs.Building.{are_flat, limited, problem_formula, sized}
use Rattle.problem_build.specs.Counting.{deeper_by_one}
use Rattle.problem_build.specs.Measuring.{both_nodes, first_measured, measured}
use Rattle.problem_build.specs.Refusals.{Refusal, formula_too_large, nesting_too_deep, too_many_symbols}
use Rattle.problem_build.proofs.BalanceLaws.{balanced-balanced, balanced-map, total}
use Rattle.problem_build.proofs.JoinedLaws.{balanced-depth, first_nodes, power, problem-fits, problem-nodes}
use Rattle.problem_build.proofs.MeasuringLaws.{first_measured-is, measured-is}

abbrev pub problem_with : Setting → Formula → List Symbol → Problem
problem_with s f ss = record { setting = s; formula = f; symbols = ss }

-- ---- what is measured

abbrev counted : List Formula → List Formula → ℕ
counted ps cs = total (map node_count ps) + first_nodes cs

measured-whole : (ps cs : List Formula) → both_nodes (measured ps) (first_measured cs) ≡ (if are_flat (ps ++ cs) then Some (min (counted ps cs) 4000001) else None)
measured-whole ps cs =
    ap (λ m. both_nodes m (first_measured cs)) (measured-is ps)
    ∙ ap (both_nodes (if are_flat ps then Some (min (total (map node_count ps)) 4000001) else None)) (first_measured-is cs)
    ∙ by (are_flat ps) (are_flat cs)
    ∙ ap (λ b. if b then Some (min (counted ps cs) 4000001) else None) (sym (list_all-append (λ f. nat_le (nesting f) 1000) ps cs))
  where
    by : (a b : Bool) → both_nodes (if a then Some (min (total (map node_count ps)) 4000001) else None) (if b then Some (min (first_nodes cs) 4000001) else None)
        ≡ (if a && b then Some (min (counted ps cs) 4000001) else None)
    by false b = refl
    by true false = refl
    by true true = ap Some (omega arith)

abbrev Found : ℕ → List Formula → List Formula → Type 0
Found n ps cs = IsTrue (are_flat (ps ++ cs)) × (n ≡ min (counted ps cs) 4000001)

found : (n : ℕ) (ps cs : List Formula) → Some n ≡ both_nodes (measured ps) (first_measured cs) → Found n ps cs
found n ps cs e = by (are_flat (ps ++ cs)) (e ∙ measured-whole ps cs)
  where
    by : (b : Bool) → Some n ≡ (if b then Some (min (counted ps cs) 4000001) else None) → IsTrue b × (n ≡ min (counted ps cs) 4000001)
    by true h = (refl, cc)
    by false h = absurd (cc)

-- ---- the first limit that is passed

limited-few : (e : Refusal) (s : Setting) (ss : List Symbol) (ps cs : List Formula) → length ss ≤ 65536
    → limited e s ss ps cs ≡ (if are_flat (ps ++ cs) then sized e s ss (problem_formula ps cs) else Err nesting_too_deep)
limited-few e s ss ps cs h =
    ap (λ b. if b then Err too_many_symbols else (if are_flat (ps ++ cs) then sized e s ss (problem_formula ps cs) else Err nesting_too_deep)) (le-ltb 65536 (length ss) h)

limited-flat : (e : Refusal) (s : Setting) (ss : List Symbol) (ps cs : List Formula) → length ss ≤ 65536 → IsTrue (are_flat (ps ++ cs)) → limited e s ss ps cs ≡ sized e s ss (problem_formula ps cs)
limited-flat e s ss ps cs h flat = limited-few e s ss ps cs h ∙ ap (λ b. if b then sized e s ss (problem_formula ps cs) else Err nesting_too_deep) flat

pub many-symbols : (e : Refusal) (s : Setting) (ss : List Symbol) (ps cs : List Formula) → 65536 < length ss → Err too_many_symbols ≡ limited e s ss ps cs
many-symbols e s ss ps cs h =
    sym (ap (λ b. if b then Err too_many_symbols else (if are_flat (ps ++ cs) then sized e s ss (problem_formula ps cs) else Err nesting_too_deep)) (lt-ltb 65536 (length ss) h))

pub deep-part : (e : Refusal) (s : Setting) (ss : List Symbol) (ps cs : List Formula) → length ss ≤ 65536 → None ≡ both_nodes (measured ps) (first_measured cs)
    → Err nesting_too_deep ≡ limited e s ss ps cs
deep-part e s ss ps cs h k = by (are_flat (ps ++ cs)) (k ∙ measured-whole ps cs) ∙ sym (limited-few e s ss ps cs h)
  where
    by : (b : Bool) → None ≡ (if b then Some (min (counted ps cs) 4000001) else None) → Err nesting_too_deep ≡ (if b then sized e s ss (problem_formula ps cs) else Err nesting_too_deep)
    by true h = absurd (cc)
    by false h = refl

no-nodes : (ps cs : List Formula) → problem_formula ps cs ≡ None → counted ps cs ≡ 0
no-nodes [] [] e = omega arith
no-nodes [] (c ∷ cs) e = absurd (cc)
no-nodes (a ∷ bs) [] e = absurd (cc)
no-nodes (a ∷ bs) (c ∷ cs) e = absurd (cc)

sized-some : (e : Refusal) (s : Setting) (ss : List Symbol) (f : Formula) (b : Bool) → nat_lt 4000000 (node_count f) ≡ b
    → sized e s ss (Some f) ≡ (if b then Err formula_too_large else Ok (problem_with s f ss))
sized-some e s ss f b h = ap (λ b. if b then Err formula_too_large else Ok (problem_with s f ss)) h

pub large-formula : (e : Refusal) (s : Setting) (ss : List Symbol) (ps cs : List Formula) (n : ℕ) → length ss ≤ 65536 → Some n ≡ both_nodes (measured ps) (first_measured cs)
    → 4000000 < n → Err formula_too_large ≡ limited e s ss ps cs
large-formula e s ss ps cs n h k l = let q = found n ps cs k in by (problem_formula ps cs) refl q.1 ∙ sym (limited-flat e s ss ps cs h q.0)
  where
    by : (o : Option Formula) → problem_formula ps cs ≡ o → n ≡ min (counted ps cs) 4000001 → Err formula_too_large ≡ sized e s ss o
    by None p m = let z = no-nodes ps cs p in absurd (omega arith)
    by (Some f) p m = let z = problem-nodes ps cs f p in sym (sized-some e s ss f true (lt-ltb 4000000 (node_count f) (omega arith)))

pub no-formula : (e : Refusal) (s : Setting) (ss : List Symbol) (ps cs : List Formula) (n : ℕ) → length ss ≤ 65536 → Some n ≡ both_nodes (measured ps) (first_measured cs)
    → None ≡ problem_formula ps cs → Err e ≡ limited e s ss ps cs
no-formula e s ss ps cs n h k l = let q = found n ps cs k in ap (sized e s ss) l ∙ sym (limited-flat e s ss ps cs h q.0)

-- no more nodes than there may be
pub node-limit : (ps cs : List Formula) (n : ℕ) (f : Formula) → Some n ≡ both_nodes (measured ps) (first_measured cs) → n ≤ 4000000 → Some f ≡ problem_formula ps cs → node_count f ≤ 4000000
node-limit ps cs n f k l p = let q = found n ps cs k in let m : n ≡ min (counted ps cs) 4000001 = q.1 in let z = problem-nodes ps cs f (sym p) in omega arith

pub whole-problem : (e : Refusal) (s : Setting) (ss : List Symbol) (ps cs : List Formula) (n : ℕ) (f : Formula) → length ss ≤ 65536
    → Some n ≡ both_nodes (measured ps) (first_measured cs) → n ≤ 4000000 → Some f ≡ problem_formula ps cs
    → Ok (problem_with s f ss) ≡ limited e s ss ps cs
whole-problem e s ss ps cs n f h k l p =
    let q = found n ps cs k in
    let few : node_count f ≤ 4000000 = node-limit ps cs n f k l p in
    sym (sized-some e s ss f false (le-ltb 4000000 (node_count f) few)) ∙ ap (sized e s ss) p ∙ sym (limited-flat e s ss ps cs h q.0)

-- ---- the nesting of the formula

doubled : (k n : ℕ) → power k ≡ n → power (suc k) ≡ n + n
doubled k n e = ap (λ m. m + m) e

power-22 : power 22 ≡ 4194304
power-22 =
    doubled 21 2097152 (doubled 20 1048576 (doubled 19 524288 (doubled 18 262144 (doubled 17 131072 (doubled 16 65536 (doubled 15 32768
    (doubled 14 16384 (doubled 13 8192 (doubled 12 4096 (doubled 11 2048 (doubled 10 1024 (doubled 9 512 (doubled 8 256 (doubled 7 128
    (doubled 6 64 (doubled 5 32 (doubled 4 16 (doubled 3 8 (doubled 2 4 (doubled 1 2 (doubled 0 1 refl)))))))))))))))))))))

total-length : (fs : List Formula) → length (map nesting fs) ≤ total (map node_count fs)
total-length [] = omega arith
total-length (f ∷ fs) = let h = total-length fs in omega arith

flat-nestings : (fs : List Formula) → list_all (λ n. nat_le n 1000) (map nesting fs) ≡ are_flat fs
flat-nestings [] = refl
flat-nestings (f ∷ fs) = ap (λ b. nat_le (nesting f) 1000 && b) (flat-nestings fs)

joined-depth : (a : Formula) (bs : List Formula) → IsTrue (are_flat (a ∷ bs)) → total (map node_count (a ∷ bs)) ≤ 4000001 → nesting (balanced conj a bs) ≤ 1022
joined-depth a bs flat few =
    let p : power 22 ≡ 4194304 = power-22 in
    let l : length (map nesting (a ∷ bs)) ≤ total (map node_count (a ∷ bs)) = total-length (a ∷ bs) in
    let d : nesting (balanced conj a bs) ≤ 1000 + 22 =
    balanced-depth (map nesting (a ∷ bs)) (nesting (balanced conj a bs)) 1000 22
    (balanced-map nesting conj deeper_by_one deeper (a ∷ bs) (balanced conj a bs) (balanced-balanced conj a bs))
    (flat-nestings (a ∷ bs) ∙ flat) (within (length (map nesting (a ∷ bs))) (total (map node_count (a ∷ bs))) (power 22) l few p) in
    narrow (nesting (balanced conj a bs)) d
  where
    deeper : (x y : Formula) → nesting (conj x y) ≡ deeper_by_one (nesting x) (nesting y)
    deeper x y = omega arith

    within : (a b c : ℕ) → a ≤ b → b ≤ 4000001 → c ≡ 4194304 → a ≤ c
    within a b c h k p = omega arith

    narrow : (n : ℕ) → n ≤ 1000 + 22 → n ≤ 1022
    narrow n h = omega arith

first-flat : (c : Formula) (cs : List Formula) → IsTrue (are_flat (c ∷ cs)) → nesting c ≤ 1000
first-flat c cs h = leb-true (nesting c) 1000 (and_parts (nat_le (nesting c) 1000) (are_flat cs) h).0

pub formula-depth : (ps cs : List Formula) (f : Formula) → problem_formula ps cs ≡ Some f → IsTrue (are_flat (ps ++ cs)) → counted ps cs ≤ 4000000 → nesting f ≤ 1100
formula-depth [] [] f e flat few = absurd (cc)
formula-depth [] (c ∷ cs) f e flat few = let h : c ≡ f = cc in let n = first-flat c cs flat in let m = ap nesting h in omega arith
formula-depth (a ∷ bs) [] f e flat few =
    let h : neg (balanced conj a bs) ≡ f = cc in
    let parts = and_parts (are_flat (a ∷ bs)) true (sym (list_all-append (λ f. nat_le (nesting f) 1000) (a ∷ bs) []) ∙ flat) in
    let n : nesting (balanced conj a bs) ≤ 1022 = joined-depth a bs parts.0 (omega arith) in
    let m : suc (nesting (balanced conj a bs)) ≡ nesting f = ap nesting h in omega arith
formula-depth (a ∷ bs) (c ∷ cs) f e flat few =
    let h : imp (balanced conj a bs) c ≡ f = cc in
    let parts = and_parts (are_flat (a ∷ bs)) (are_flat (c ∷ cs)) (sym (list_all-append (λ f. nat_le (nesting f) 1000) (a ∷ bs) (c ∷ cs)) ∙ flat) in
    let n : nesting (balanced conj a bs) ≤ 1022 = joined-depth a bs parts.0 (omega arith) in
    let k : nesting c ≤ 1000 = first-flat c cs parts.1 in
    let m : deeper_by_one (nesting (balanced conj a bs)) (nesting c) ≡ nesting f = sym (same (balanced conj a bs) c) ∙ ap nesting h in omega arith
  where
    same : (x y : Formula) → nesting (imp x y) ≡ deeper_by_one (nesting x) (nesting y)
    same x y = omega arith

-- ---- a problem of the calculus

pub problem-fits_all : (s : Setting) (ss : List Symbol) (ps cs : List Formula) (n : ℕ) (f : Formula) → IsTrue (setting_fits s.logic s.domains) → length ss ≤ 65536
    → IsTrue (are_distinct ss) → IsTrue (list_all symbol_fits ss) → IsTrue (list_all (formula_fits s.logic ss 0) ps) → IsTrue (list_all (formula_fits s.logic ss 0) cs)
    → Some n ≡ both_nodes (measured ps) (first_measured cs) → n ≤ 4000000 → Some f ≡ problem_formula ps cs
    → IsTrue (is_problem (problem_with s f ss))
problem-fits_all s ss ps cs n f fits few apart names p q k l e =
    let r = found n ps cs k in
    let m : n ≡ min (counted ps cs) 4000001 = r.1 in
    let formula : IsTrue (formula_fits s.logic ss 0 f) = problem-fits s.logic ss ps cs f (sym e) p q in
    let nodes : IsTrue (nat_le (node_count f) 4000000) = le-leb (node_count f) 4000000 (node-limit ps cs n f k l e) in
    let depth : IsTrue (nat_le (nesting f) 1100) = le-leb (nesting f) 1100 (formula-depth ps cs f (sym e) r.0 (omega arith)) in
    let short : IsTrue (nat_le (length ss) 65536) = le-leb (length ss) 65536 few in
    λ i. fits i && formula i && names i && apart i && short i && nodes i && depth i
