-- A table of lists keeps its lists when it grows, and each link gives the list behind it.
use Rattle.std.proofs.Common.{◌≡◌, ℕ, zero, suc, ◌+◌, ◌<◌, List, [], ◌∷◌, ◌++◌, length, get_or, refl, sym, ◌∙◌, ap, subst, arith}
use Rattle.std.proofs.lemmas.List.{length-append, get_or_append_left, get_or_push}
use Rattle.label_table.specs.Chains.{with_link, chains_from, chains, AreBackward}

pub chains_from-append : {A : Type 0} (table : List (List A)) (xs ys : List (A × ℕ)) → chains_from table (xs ++ ys) ≡ chains_from (chains_from table xs) ys
chains_from-append table [] ys = refl
chains_from-append table (x ∷ xs) ys = chains_from-append (with_link table x) xs ys

length-with_link : {A : Type 0} (table : List (List A)) (x : A × ℕ) → length (with_link table x) ≡ suc (length table)
length-with_link table x = let e = length-append table ((x.0 ∷ get_or table x.1 []) ∷ []) in omega arith

pub chains_from-length : {A : Type 0} (table : List (List A)) (xs : List (A × ℕ)) → length (chains_from table xs) ≡ length table + length xs
chains_from-length table [] = omega arith
chains_from-length table (x ∷ xs) = let e = chains_from-length (with_link table x) xs in let f = length-with_link table x in omega arith

pub chains-length : {A : Type 0} (xs : List (A × ℕ)) → length (chains xs) ≡ suc (length xs)
chains-length {A} xs = let one : List (List A) = [] ∷ [] in let e : length (chains xs) ≡ 1 + length xs = chains_from-length one xs in omega arith

-- the lists that are there stay
pub chains_from-kept : {A : Type 0} (table : List (List A)) (xs : List (A × ℕ)) (k : ℕ) (d : List A) → k < length table → get_or (chains_from table xs) k d ≡ get_or table k d
chains_from-kept table [] k d h = refl
chains_from-kept table (x ∷ xs) k d h =
    let f = length-with_link table x in
    chains_from-kept (with_link table x) xs k d (omega arith) ∙ get_or_append_left table ((x.0 ∷ get_or table x.1 []) ∷ []) d k h

pub chain-at : {A : Type 0} (table : List (List A)) (xs : List (A × ℕ)) (k : ℕ) (z : A × ℕ) → AreBackward (length table) xs → k < length xs
    → get_or (chains_from table xs) (length table + k) [] ≡ (get_or xs k z).0 ∷ get_or (chains_from table xs) (get_or xs k z).1 []
chain-at table [] k z h lt = absurd (omega arith)
chain-at table (x ∷ xs) zero z h lt =
    let n = length-with_link table x in
    let there = chains_from-kept (with_link table x) xs (length table + 0) [] (omega arith) ∙ get_or_push table (x.0 ∷ get_or table x.1 []) [] (length table + 0) (omega arith) in
    let rest = chains_from-kept (with_link table x) xs x.1 [] (omega (arith, h.0)) ∙ get_or_append_left table ((x.0 ∷ get_or table x.1 []) ∷ []) [] x.1 h.0 in
    there ∙ ap (λ l. x.0 ∷ l) (sym rest)
chain-at table (x ∷ xs) (suc k) z h lt =
    let n = length-with_link table x in
    let back = subst (λ m. AreBackward m xs) (sym n) h.1 in
    let at : length table + suc k ≡ length (with_link table x) + k = omega arith in
    ap (λ m. get_or (chains_from (with_link table x) xs) m []) at ∙ chain-at (with_link table x) xs k z back (omega arith)

-- the list at a place that is not the first
pub chains-at : {A : Type 0} (xs : List (A × ℕ)) (k : ℕ) (z : A × ℕ) → AreBackward 1 xs → k < length xs
    → get_or (chains xs) (suc k) [] ≡ (get_or xs k z).0 ∷ get_or (chains xs) (get_or xs k z).1 []
chains-at {A} xs k z h lt =
    let one : List (List A) = [] ∷ [] in
    let at : suc k ≡ 1 + k = omega arith in
    ap (λ m. get_or (chains xs) m []) at ∙ chain-at one xs k z h lt

pub chains-first : {A : Type 0} (xs : List (A × ℕ)) → get_or (chains xs) 0 [] ≡ []
chains-first {A} xs = let one : List (List A) = [] ∷ [] in chains_from-kept one xs 0 [] (omega arith)

pub chains-push : {A : Type 0} (xs : List (A × ℕ)) (x : A × ℕ) → chains (xs ++ x ∷ []) ≡ chains xs ++ (x.0 ∷ get_or (chains xs) x.1 []) ∷ []
chains-push {A} xs x = let one : List (List A) = [] ∷ [] in chains_from-append one xs (x ∷ [])

pub backward-push : {A : Type 0} (n : ℕ) (xs : List (A × ℕ)) (x : A × ℕ) → AreBackward n xs → x.1 < n + length xs → AreBackward n (xs ++ x ∷ [])
backward-push n [] x h lt = (omega arith, tt)
backward-push n (y ∷ ys) x h lt = (h.0, backward-push (suc n) ys x h.1 (omega arith))

-- the rest of a list comes before it
pub backward-at : {A : Type 0} (n : ℕ) (xs : List (A × ℕ)) (k : ℕ) (z : A × ℕ) → AreBackward n xs → k < length xs → (get_or xs k z).1 < n + k
backward-at n [] k z h lt = absurd (omega arith)
backward-at n (x ∷ xs) zero z h lt = omega (arith, h.0)
backward-at n (x ∷ xs) (suc k) z h lt = let e = backward-at (suc n) xs k z h.1 (omega arith) in omega arith
