-- The ends of an instance's literals: each is right where the tableau closes, and none costs more than its closing.
use Rattle.std.proofs.Common.{◌≡◌, ℕ, zero, suc, ◌+◌, ◌≤◌, arith, List, [], ◌∷◌, ◌++◌, take, drop, length, IsTrue, refl, ap, inl, slice_get, remove}
use Rattle.std.proofs.lemmas.Bool.{false≢true, and_parts}
use Rattle.calculus.specs.Syntax.{Problem}
use Rattle.calculus.specs.Ground.{GroundLiteral}
use Rattle.calculus.specs.Derivations.{Step, apply_to, close, axiom_count}
use Rattle.calculus.specs.Tableaux.{Closing, Closings, reduce, extend, no_closings, more_closings, Tableau, instances, instances_below, instances_of_all, are_complementary, is_complement, closes, closes_all}
use Rattle.conversion_theory.specs.Turns.{closing_count, closings_count}
use Rattle.conversion_theory.specs.Leading.{End, meets_path, by_closing, ends_of, ends_at, ends_cost, closings_weight, ends_weight}
use Rattle.calculus.proofs.WalkLaws.{SomeIn}
use Rattle.calculus.proofs.Members.{Among}
use Rattle.std.specs.List.{AllByRecursion}
use Rattle.plain_laws.proofs.Every.{each-parts}

-- a literal of the path is complementary to the literal, or the closing closes it below the path
abbrev pub IsEnd : Problem → Tableau → ℕ → List GroundLiteral → GroundLiteral → End → Type 0
IsEnd P t d path x meets_path = SomeIn (λ y. IsTrue (are_complementary y x)) path
IsEnd P t d path x (by_closing c) = IsTrue (closes P d path x c) × AllByRecursion (Among (instances t)) (instances_below c)

-- each literal has its end
abbrev pub AreEnds : Problem → Tableau → ℕ → List GroundLiteral → List GroundLiteral → List End → Type 0
AreEnds P t d path [] [] = Unit {0}
AreEnds P t d path [] (e ∷ es) = ⊥
AreEnds P t d path (x ∷ xs) [] = ⊥
AreEnds P t d path (x ∷ xs) (e ∷ es) = IsEnd P t d path x e × AreEnds P t d path xs es

pub ends-start : (P : Problem) (t : Tableau) (d : ℕ) (path goals : List GroundLiteral) (cs : Closings) → IsTrue (closes_all P d path goals cs) → AllByRecursion (Among (instances t)) (instances_of_all cs) → AreEnds P t d path goals (ends_of cs)
ends-start P t d path [] no_closings h inside = tt
ends-start P t d path (x ∷ xs) no_closings h inside = absurd (false≢true h)
ends-start P t d path [] (more_closings c cs) h inside = absurd (false≢true h)
ends-start P t d path (x ∷ xs) (more_closings c cs) h inside = let p = and_parts (closes P d path x c) (closes_all P d path xs cs) h in let q = each-parts (Among (instances t)) (instances_below c) (instances_of_all cs) inside in ((p.0, q.0), ends-start P t d path xs cs p.1 q.1)

pub ends-extension : (P : Problem) (t : Tableau) (d : ℕ) (path : List GroundLiteral) (goal : GroundLiteral) (literals : List GroundLiteral) (place : ℕ) (below : Closings) → IsTrue (is_complement goal (slice_get literals place)) → IsTrue (closes_all P d (goal ∷ path) (remove literals place) below) → AllByRecursion (Among (instances t)) (instances_of_all below) → AreEnds P t d (goal ∷ path) literals (ends_at place below)
ends-extension P t d path goal [] place below e h inside = absurd (false≢true e)
ends-extension P t d path goal (x ∷ xs) zero below e h inside = (inl e, ends-start P t d (goal ∷ path) xs below h inside)
ends-extension P t d path goal (x ∷ xs) (suc k) no_closings e h inside = absurd (false≢true h)
ends-extension P t d path goal (x ∷ xs) (suc k) (more_closings c cs) e h inside = let p = and_parts (closes P d (goal ∷ path) x c) (closes_all P d (goal ∷ path) (remove xs k) cs) h in let q = each-parts (Among (instances t)) (instances_below c) (instances_of_all cs) inside in ((p.0, q.0), ends-extension P t d path goal xs k cs e p.1 q.1)

-- the ends of two parts
pub ends-split : (P : Problem) (t : Tableau) (d : ℕ) (path xs ys : List GroundLiteral) (es : List End) → AreEnds P t d path (xs ++ ys) es → AreEnds P t d path xs (take (length xs) es) × AreEnds P t d path ys (drop (length xs) es)
ends-split P t d path [] ys es h = (tt, h)
ends-split P t d path (x ∷ xs) ys [] h = elim h [ ]
ends-split P t d path (x ∷ xs) ys (e ∷ es) h = let r = ends-split P t d path xs ys es h.1 in ((h.0, r.0), r.1)

pub cost-split : (n : ℕ) (es : List End) → ends_cost (take n es) + ends_cost (drop n es) ≡ ends_cost es
cost-split zero es = omega arith
cost-split (suc n) [] = refl
cost-split (suc n) (e ∷ es) = let r = cost-split n es in omega arith

pub weight-split : (P : Problem) (n : ℕ) (es : List End) → ends_weight P (take n es) + ends_weight P (drop n es) ≡ ends_weight P es
weight-split P zero es = omega arith
weight-split P (suc n) [] = refl
weight-split P (suc n) (e ∷ es) = let r = weight-split P n es in omega arith

-- what they cost
pub cost-start : (cs : Closings) → ends_cost (ends_of cs) ≡ closings_count cs
cost-start no_closings = refl
cost-start (more_closings c cs) = let r = cost-start cs in omega arith

pub cost-extension : (place : ℕ) (cs : Closings) → ends_cost (ends_at place cs) ≤ suc (closings_count cs)
cost-extension zero cs = let r = cost-start cs in omega arith
cost-extension (suc k) no_closings = omega arith
cost-extension (suc k) (more_closings c cs) = let r = cost-extension k cs in omega arith

pub weight-start : (P : Problem) (cs : Closings) → ends_weight P (ends_of cs) ≡ closings_weight P cs
weight-start P no_closings = refl
weight-start P (more_closings c cs) = let r = weight-start P cs in omega arith

pub weight-extension : (P : Problem) (place : ℕ) (cs : Closings) → ends_weight P (ends_at place cs) ≤ suc (closings_weight P cs)
weight-extension P zero cs = let r = weight-start P cs in omega arith
weight-extension P (suc k) no_closings = omega arith
weight-extension P (suc k) (more_closings c cs) = let r = weight-extension P k cs in omega arith

-- no closing is for nothing
pub closing-positive : (c : Closing) → 1 ≤ closing_count c
closing-positive (reduce up) = omega arith
closing-positive (extend i place below) = omega arith

-- one step more
pub count-step : (xs : List Step) (n : ℕ) (m : _) (u : _) → axiom_count (xs ++ apply_to n m u ∷ []) ≡ axiom_count xs
count-step [] n m u = refl
count-step (apply_to k a b ∷ xs) n m u = count-step xs n m u
count-step (close k j ∷ xs) n m u = ap suc (count-step xs n m u)

pub count-axiom : (xs : List Step) (n k : ℕ) → axiom_count (xs ++ close n k ∷ []) ≡ suc (axiom_count xs)
count-axiom [] n k = refl
count-axiom (apply_to i a b ∷ xs) n k = count-axiom xs n k
count-axiom (close i j ∷ xs) n k = ap suc (count-axiom xs n k)

pub length-ends : (P : Problem) (t : Tableau) (d : ℕ) (path xs : List GroundLiteral) (es : List End) → AreEnds P t d path xs es → length es ≡ length xs
length-ends P t d path [] [] h = refl
length-ends P t d path [] (e ∷ es) h = elim h [ ]
length-ends P t d path (x ∷ xs) [] h = elim h [ ]
length-ends P t d path (x ∷ xs) (e ∷ es) h = ap suc (length-ends P t d path xs es h.1)

pub take-length : (n : ℕ) (es : List End) → take n es ≡ take (length (take n es)) es
take-length zero es = refl
take-length (suc n) [] = refl
take-length (suc n) (e ∷ es) = ap (λ zs. e ∷ zs) (take-length n es)

pub drop-length : (n : ℕ) (es : List End) → drop n es ≡ drop (length (take n es)) es
drop-length zero es = refl
drop-length (suc n) [] = refl
drop-length (suc n) (e ∷ es) = drop-length n es
