-- Ends as the program has them.
use Rattle.std.proofs.Common.{◌≡◌, ℕ, zero, suc, ◌-◌, ◌≤◌, ◌<◌, List, [], ◌∷◌, ◌++◌, map, length, take, drop, append_assoc, append-nil, Bool, true, false, ◌&&◌, if◌then◌else◌, nat_le, nat_lt, nat_eq, refl, sym, ◌∙◌, ap, inl, inr, arith, lt-ltb, le-leb, Some, None}
use Rattle.std.proofs.lemmas.Bool.{cases_Bool, eqb-true, leb-true, leb-false}
use Rattle.calculus.specs.Instances.{ClauseInstance}
use Rattle.calculus.specs.Lists.{closings_tree}
use Rattle.calculus.specs.Tableaux as tree
use Rattle.conversion_theory.specs.Leading as leading
use Rattle.formula_core.specs.GroundLists.{GroundList}
use Rattle.tableau_core.specs.Numbered.Closings as numbered
use Rattle.tableau_core.specs.Numbered.ClosingView.{closing_in, closings_in, the_closing}
use Rattle.tableau_core.specs.declared.closing.Closing as program
use Rattle.tableau_core.proofs.Numbered.ClosingLaws.{closings-in}
use Rattle.sequent_convert.specs.AheadView.{IsExtended, IsNotExtended, meeting}
use Rattle.sequent_convert.specs.ByNumber.AheadView.{the_end, starts_with, closing_ends}
use Rattle.sequent_convert.specs.declared.ahead.End as end_type

-- ---- parts

take-parts : (xs ys : List leading.End) (n : ℕ) → take n (xs ++ ys) ≡ take n xs ++ take (n - length xs) ys
take-parts [] ys zero = refl
take-parts [] ys (suc n) = let e : suc n ≡ suc n - 0 = omega arith in ap (λ k. take k ys) e
take-parts (x ∷ xs) ys zero = let e : 0 ≡ 0 - suc (length xs) = omega arith in ap (λ k. take k ys) e
take-parts (x ∷ xs) ys (suc n) = let e : n - length xs ≡ suc n - suc (length xs) = omega arith in ap (λ zs. x ∷ zs) (take-parts xs ys n ∙ ap (λ k. take n xs ++ take k ys) e)

drop-parts : (xs ys : List leading.End) (n : ℕ) → drop n (xs ++ ys) ≡ drop n xs ++ drop (n - length xs) ys
drop-parts [] ys zero = refl
drop-parts [] ys (suc n) = let e : suc n ≡ suc n - 0 = omega arith in ap (λ k. drop k ys) e
drop-parts (x ∷ xs) ys zero = let e : 0 ≡ 0 - suc (length xs) = omega arith in ap (λ k. x ∷ (xs ++ drop k ys)) e
drop-parts (x ∷ xs) ys (suc n) = let e : n - length xs ≡ suc n - suc (length xs) = omega arith in drop-parts xs ys n ∙ ap (λ k. drop n xs ++ drop k ys) e

take-meeting : (m : Bool) (ys : List leading.End) (n : ℕ) → take n (meeting m ++ ys) ≡ meeting (m && nat_lt 0 n) ++ take (if m then n - 1 else n) ys
take-meeting false ys n = refl
take-meeting true ys zero = refl
take-meeting true ys (suc n) =
    let b : nat_lt 0 (suc n) ≡ true = lt-ltb 0 (suc n) (omega arith) in
    let e : n ≡ suc n - 1 = omega arith in
    λ i. meeting (true && sym b i) ++ take (e i) ys

not-zero : (n : ℕ) → nat_eq (suc n) 0 ≡ false
not-zero n = elim (cases_Bool (nat_eq (suc n) 0)) [ inl e ↦ absurd (let z = eqb-true (suc n) 0 e in omega (arith, z)) | inr e ↦ e ]

drop-meeting : (m : Bool) (ys : List leading.End) (n : ℕ) → drop n (meeting m ++ ys) ≡ meeting (m && nat_eq n 0) ++ drop (if m then n - 1 else n) ys
drop-meeting false ys n = refl
drop-meeting true ys zero = refl
drop-meeting true ys (suc n) =
    let b = not-zero n in
    let e : n ≡ suc n - 1 = omega arith in
    λ i. meeting (true && sym b i) ++ drop (e i) ys

take-closings : (ls : List GroundList) (n : ℕ) (bs : List program.Closing) → take n (closing_ends ls bs) ≡ closing_ends ls (take n bs)
take-closings ls zero bs = refl
take-closings ls (suc n) [] = refl
take-closings ls (suc n) (b ∷ bs) = ap (λ es. leading.by_closing (closing_in ls (the_closing b)) ∷ es) (take-closings ls n bs)

drop-closings : (ls : List GroundList) (n : ℕ) (bs : List program.Closing) → drop n (closing_ends ls bs) ≡ closing_ends ls (drop n bs)
drop-closings ls zero bs = refl
drop-closings ls (suc n) [] = refl
drop-closings ls (suc n) (b ∷ bs) = drop-closings ls n bs

count-closings : (ls : List GroundList) (bs : List program.Closing) → length (closing_ends ls bs) ≡ length bs
count-closings ls [] = refl
count-closings ls (b ∷ bs) = ap suc (count-closings ls bs)

pub take-ends : (ls : List GroundList) (bs es cs fs : List program.Closing) (m p : Bool) (n rest k : ℕ) → rest ≡ n - length bs → k ≡ (if m then rest - 1 else rest) → p ≡ (m && nat_lt 0 rest) → cs ≡ take n bs → fs ≡ take k es → closing_ends ls cs ++ meeting p ++ closing_ends ls fs ≡ take n (closing_ends ls bs ++ meeting m ++ closing_ends ls es)
take-ends ls bs es cs fs m p n rest k r b q c f =
    let count = count-closings ls bs in
    let whole : take n (closing_ends ls bs ++ (meeting m ++ closing_ends ls es)) ≡ closing_ends ls (take n bs) ++ (meeting (m && nat_lt 0 rest) ++ closing_ends ls (take (if m then rest - 1 else rest) es)) =
    take-parts (closing_ends ls bs) (meeting m ++ closing_ends ls es) n
    ∙ (λ i. take-closings ls n bs i ++ take (same count i) (meeting m ++ closing_ends ls es))
    ∙ ap (λ zs. closing_ends ls (take n bs) ++ zs) (take-meeting m (closing_ends ls es) rest ∙ ap (λ zs. meeting (m && nat_lt 0 rest) ++ zs) (take-closings ls (if m then rest - 1 else rest) es)) in
    (λ i. closing_ends ls (c i) ++ meeting (q i) ++ closing_ends ls ((f ∙ ap (λ j. take j es) b) i))
    ∙ append_assoc (closing_ends ls (take n bs)) (meeting (m && nat_lt 0 rest)) (closing_ends ls (take (if m then rest - 1 else rest) es))
    ∙ sym whole
    ∙ ap (take n) (sym (append_assoc (closing_ends ls bs) (meeting m) (closing_ends ls es)))
  where
    same : length (closing_ends ls bs) ≡ length bs → n - length (closing_ends ls bs) ≡ rest
    same e = ap (λ j. n - j) e ∙ sym r

pub drop-ends : (ls : List GroundList) (bs es cs fs : List program.Closing) (m p : Bool) (n rest k : ℕ) → rest ≡ n - length bs → k ≡ (if m then rest - 1 else rest) → p ≡ (m && nat_eq rest 0) → cs ≡ drop n bs → fs ≡ drop k es → closing_ends ls cs ++ meeting p ++ closing_ends ls fs ≡ drop n (closing_ends ls bs ++ meeting m ++ closing_ends ls es)
drop-ends ls bs es cs fs m p n rest k r b q c f =
    let count = count-closings ls bs in
    let whole : drop n (closing_ends ls bs ++ (meeting m ++ closing_ends ls es)) ≡ closing_ends ls (drop n bs) ++ (meeting (m && nat_eq rest 0) ++ closing_ends ls (drop (if m then rest - 1 else rest) es)) =
    drop-parts (closing_ends ls bs) (meeting m ++ closing_ends ls es) n
    ∙ (λ i. drop-closings ls n bs i ++ drop (same count i) (meeting m ++ closing_ends ls es))
    ∙ ap (λ zs. closing_ends ls (drop n bs) ++ zs) (drop-meeting m (closing_ends ls es) rest ∙ ap (λ zs. meeting (m && nat_eq rest 0) ++ zs) (drop-closings ls (if m then rest - 1 else rest) es)) in
    (λ i. closing_ends ls (c i) ++ meeting (q i) ++ closing_ends ls ((f ∙ ap (λ j. drop j es) b) i))
    ∙ append_assoc (closing_ends ls (drop n bs)) (meeting (m && nat_eq rest 0)) (closing_ends ls (drop (if m then rest - 1 else rest) es))
    ∙ sym whole
    ∙ ap (drop n) (sym (append_assoc (closing_ends ls bs) (meeting m) (closing_ends ls es)))
  where
    same : length (closing_ends ls bs) ≡ length bs → n - length (closing_ends ls bs) ≡ rest
    same e = ap (λ j. n - j) e ∙ sym r

pub ruleset parts = (take-ends, drop-ends)

-- ---- an extension

abbrev closings_of : List GroundList → List program.Closing → List tree.Closing
closings_of ls cs = map (closing_in ls) (map the_closing cs)

ends-closings : (ls : List GroundList) (cs : List program.Closing) → closing_ends ls cs ≡ leading.ends_of (closings_tree (closings_of ls cs))
ends-closings ls [] = refl
ends-closings ls (c ∷ cs) = ap (λ es. leading.by_closing (closing_in ls (the_closing c)) ∷ es) (ends-closings ls cs)

drop-length : (cs : List program.Closing) → drop (length cs) cs ≡ []
drop-length [] = refl
drop-length (c ∷ cs) = drop-length cs

pub start-ends : (ls : List GroundList) (cs es : List program.Closing) (n : ℕ) (gs : List numbered.Closing) → map the_closing cs ≡ gs → n ≡ length cs → es ≡ drop n cs → closing_ends ls cs ++ meeting false ++ closing_ends ls es ≡ leading.ends_of (closings_tree (map (closing_in ls) gs))
start-ends ls cs es n gs g len e =
    (λ i. closing_ends ls cs ++ [] ++ closing_ends ls ((e ∙ ap (λ k. drop k cs) len ∙ drop-length cs) i))
    ∙ append-nil (closing_ends ls cs ++ [])
    ∙ append-nil (closing_ends ls cs)
    ∙ ends-closings ls cs
    ∙ ap (λ xs. leading.ends_of (closings_tree (map (closing_in ls) xs))) g

pub ruleset starting = (start-ends)

le-step : (n m : ℕ) → nat_le (suc n) (suc m) ≡ nat_le n m
le-step n m = elim (cases_Bool (nat_le n m)) [
  | inl e ↦ let lt : n ≤ m = leb-true n m e in le-leb (suc n) (suc m) (omega (arith, lt)) ∙ sym e
  | inr e ↦ let gt : m < n = leb-false n m e in not-le (suc n) (suc m) (omega (arith, gt)) ∙ sym e
]
  where
    not-le : (a b : ℕ) → b < a → nat_le a b ≡ false
    not-le a b lt = elim (cases_Bool (nat_le a b)) [ inl e ↦ absurd (let le = leb-true a b e in omega (arith, lt, le)) | inr e ↦ e ]

extension-parts : (ls : List GroundList) (cs : List program.Closing) (place : ℕ) → closing_ends ls (take place cs) ++ meeting (nat_le place (length cs)) ++ closing_ends ls (drop place cs) ≡ leading.ends_at place (closings_tree (closings_of ls cs))
extension-parts ls cs zero = let some : nat_le 0 (length cs) ≡ true = le-leb 0 (length cs) (omega arith) in ap (λ b. meeting b ++ closing_ends ls cs) some ∙ ap (λ es. leading.meets_path ∷ es) (ends-closings ls cs)
extension-parts ls [] (suc k) = let none : nat_le (suc k) 0 ≡ false = elim (cases_Bool (nat_le (suc k) 0)) [ inl e ↦ absurd (let le = leb-true (suc k) 0 e in omega (arith, le)) | inr e ↦ e ] in ap (λ b. meeting b ++ []) none
extension-parts ls (c ∷ cs) (suc k) = ap (λ b. closing_ends ls (c ∷ take k cs) ++ meeting b ++ closing_ends ls (drop k cs)) (le-step k (length cs)) ∙ ap (λ es. leading.by_closing (closing_in ls (the_closing c)) ∷ es) (extension-parts ls cs k)

pub extension-ends : (ls : List GroundList) (cs bs es : List program.Closing) (place n : ℕ) (p : Bool) (gs : List numbered.Closing) → map the_closing cs ≡ gs → bs ≡ take place cs → es ≡ drop place cs → n ≡ length cs → p ≡ nat_le place n → closing_ends ls bs ++ meeting p ++ closing_ends ls es ≡ leading.ends_at place (closings_tree (map (closing_in ls) gs))
extension-ends ls cs bs es place n p gs g b e len q =
    (λ i. closing_ends ls (b i) ++ meeting ((q ∙ ap (nat_le place) len) i) ++ closing_ends ls (e i)) ∙ extension-parts ls cs place ∙ ap (λ xs. leading.ends_at place (closings_tree (map (closing_in ls) xs))) g

pub ruleset extension = (extension-ends)

-- ---- the first end

pub none-extended : (ls : List GroundList) (es : List leading.End) → starts_with ls es None → IsNotExtended es
none-extended ls [] h = tt
none-extended ls (e ∷ es) h = elim h [ ]

pub now-extended : (ls : List GroundList) (es : List leading.End) (x : end_type.End) → starts_with ls es (Some x) → leading.closes_at_once (the_end ls x) ≡ true → IsNotExtended es
now-extended ls [] x h e = absurd (none-some (sym h))
  where
    none-some : {A : Type 0} {a : A} → None ≡ Some a → ⊥
    none-some z = cc
now-extended ls (y ∷ es) x h e = ap leading.closes_at_once h ∙ e

pub is-extended : (ls : List GroundList) (es : List leading.End) (x : end_type.End) (j : ClauseInstance) (place : ℕ) (goals : List numbered.Closing) → starts_with ls es (Some x) → the_end ls x ≡ leading.by_closing (tree.extend j place (closings_in ls (numbered.closings_tree goals))) → IsExtended es place (closings_tree (map (closing_in ls) goals))
is-extended ls [] x j place goals h e = absurd (none-some (sym h))
  where
    none-some : {A : Type 0} {a : A} → None ≡ Some a → ⊥
    none-some z = cc
is-extended ls (y ∷ es) x j place goals h e = record { instance = j; rest = es; first = ap (λ z. z ∷ es) (h ∙ e ∙ ap (λ gs. leading.by_closing (tree.extend j place gs)) (closings-in ls goals)) }

pub ruleset starts = (none-extended, now-extended, is-extended)
