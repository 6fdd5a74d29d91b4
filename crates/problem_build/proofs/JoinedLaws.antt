-- The formula of a problem: it fits its symbols where its parts do, its nodes are counted part by part, and it is little
-- deeper than they are.
use Rattle.std.proofs.Common.{◌≡◌, ◌⊎◌, ℕ, zero, suc, ◌+◌, ◌≤◌, true, List, [], ◌∷◌, ◌++◌, Some, length, map, IsTrue, inl, inr, refl, sym, ◌∙◌, ap, arith}
use Rattle.std.specs.Prelude.{nat_le}
use Rattle.std.specs.List.{list_all}
use Rattle.std.proofs.lemmas.Bool.{and_parts, and_from, leb-true}
use Rattle.std.proofs.lemmas.List.{length-append}
use Rattle.std.proofs.lemmas.List.Folds.{list_all-append}
use Rattle.calculus.specs.declared.setting.Logic.{Logic}
use Rattle.calculus.specs.Measures.{node_count}
use Rattle.calculus.specs.Problems.{formula_fits}
use Rattle.calculus.specs.Syntax.{Symbol, Formula, neg, conj, imp}
use Rattle.problem_build.specs.Balance.{IsBalanced, one, halves, balanced}
use Rattle.problem_build.specs.Building.{problem_formula}
use Rattle.problem_build.specs.Counting.{deeper_by_one}
use Rattle.problem_build.proofs.BalanceLaws.{balanced-balanced, balanced-map, balanced-some, balanced-total, total}
use Rattle.problem_build.proofs.ExpansionLaws.{balanced-keeps}

-- ---- nodes

abbrev pub first_nodes : List Formula → ℕ
first_nodes [] = 0
first_nodes (c ∷ cs) = node_count c

premises-total : (a : Formula) (bs : List Formula) → suc (node_count (balanced conj a bs)) ≡ total (map node_count (a ∷ bs))
premises-total a bs =
    balanced-total (map node_count (a ∷ bs)) _
    (balanced-map node_count conj (λ a b. suc (a + b)) (λ a b. refl) (a ∷ bs) _ (balanced-balanced conj a bs))

pub problem-nodes : (ps cs : List Formula) (f : Formula) → problem_formula ps cs ≡ Some f → node_count f ≡ total (map node_count ps) + first_nodes cs
problem-nodes [] [] f e = absurd (cc)
problem-nodes [] (c ∷ cs) f e = let h : c ≡ f = cc in sym (ap node_count h) ∙ omega arith
problem-nodes (a ∷ bs) [] f e = let h : neg (balanced conj a bs) ≡ f = cc in let t = premises-total a bs in sym (ap node_count h) ∙ omega arith
problem-nodes (a ∷ bs) (c ∷ cs) f e = let h : imp (balanced conj a bs) c ≡ f = cc in let t = premises-total a bs in sym (ap node_count h) ∙ omega arith

-- ---- symbols

pub problem-fits : (l : Logic) (symbols : List Symbol) (ps cs : List Formula) (f : Formula) → problem_formula ps cs ≡ Some f
    → IsTrue (list_all (formula_fits l symbols 0) ps) → IsTrue (list_all (formula_fits l symbols 0) cs) → IsTrue (formula_fits l symbols 0 f)
problem-fits l symbols [] [] f e p q = absurd (cc)
problem-fits l symbols [] (c ∷ cs) f e p q = let h : c ≡ f = cc in sym (ap (formula_fits l symbols 0) h) ∙ (and_parts (formula_fits l symbols 0 c) (list_all (formula_fits l symbols 0) cs) q).0
problem-fits l symbols (a ∷ bs) [] f e p q =
    let h : neg (balanced conj a bs) ≡ f = cc in
    sym (ap (formula_fits l symbols 0) h) ∙ balanced-keeps (formula_fits l symbols 0) conj (λ x y s t. and_from (formula_fits l symbols 0 x) (formula_fits l symbols 0 y) s t) (a ∷ bs) _ (balanced-balanced conj a bs) p
problem-fits l symbols (a ∷ bs) (c ∷ cs) f e p q =
    let h : imp (balanced conj a bs) c ≡ f = cc in
    sym (ap (formula_fits l symbols 0) h)
    ∙ and_from (formula_fits l symbols 0 (balanced conj a bs)) (formula_fits l symbols 0 c)
    (balanced-keeps (formula_fits l symbols 0) conj (λ x y s t. and_from (formula_fits l symbols 0 x) (formula_fits l symbols 0 y) s t) (a ∷ bs) _ (balanced-balanced conj a bs) p)
    (and_parts (formula_fits l symbols 0 c) (list_all (formula_fits l symbols 0) cs) q).0

-- ---- nesting

abbrev pub power : ℕ → ℕ
power zero = 1
power (suc k) = power k + power k

half : (a b k : ℕ) → (a ≡ b) ⊎ (a ≡ suc b) → a + b ≤ power k + power k → (a ≤ power k) × (b ≤ power k)
half a b k (inl e) h = (omega arith, omega arith)
half a b k (inr e) h = (omega arith, omega arith)

within : (n m : ℕ) → IsTrue (nat_le n m) → n ≤ m
within n m h = leb-true n m h

pub balanced-depth : (ns : List ℕ) (x m k : ℕ) → IsBalanced deeper_by_one ns x → IsTrue (list_all (λ n. nat_le n m) ns) → length ns ≤ power k → x ≤ m + k
balanced-depth _ _ m k (one x) all h = let l = within x m (and_parts (nat_le x m) true all).0 in omega arith
balanced-depth _ _ m zero (halves xs ys x y e p q) all h =
    let a = balanced-some deeper_by_one xs x p in let b = balanced-some deeper_by_one ys y q in absurd (omega (arith, length-append xs ys))
balanced-depth _ _ m (suc k) (halves xs ys x y e p q) all h =
    let parts = and_parts (list_all (λ n. nat_le n m) xs) (list_all (λ n. nat_le n m) ys) (sym (list_all-append (λ n. nat_le n m) xs ys) ∙ all) in
    let l : length (xs ++ ys) ≡ length xs + length ys = length-append xs ys in
    let s = half (length xs) (length ys) k e (omega arith) in
    let a = balanced-depth xs x m k p parts.0 s.0 in
    let b = balanced-depth ys y m k q parts.1 s.1 in
    omega arith
