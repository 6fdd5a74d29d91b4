-- Lists that share their ends: a table of lists, each one an item before a list that came earlier.
use Rattle.std.specs.Prelude.{ℕ, suc, ◌<◌, List, [], ◌∷◌, ◌++◌, get_or}

-- a link gives a list by its first item and by the place of its rest
abbrev pub with_link : {A : Type 0} → List (List A) → A × ℕ → List (List A)
with_link table x = table ++ (x.0 ∷ get_or table x.1 []) ∷ []

abbrev pub chains_from : {A : Type 0} → List (List A) → List (A × ℕ) → List (List A)
chains_from table [] = table
chains_from table (x ∷ xs) = chains_from (with_link table x) xs

-- the lists that links give. The first list is empty, so a link stands one place before its list
abbrev pub chains : {A : Type 0} → List (A × ℕ) → List (List A)
chains xs = chains_from ([] ∷ []) xs

-- the rest of each list came before it
abbrev pub AreBackward : {A : Type 0} → ℕ → List (A × ℕ) → Type 0
AreBackward n [] = Unit {0}
AreBackward n (x ∷ xs) = (x.1 < n) × AreBackward (suc n) xs
