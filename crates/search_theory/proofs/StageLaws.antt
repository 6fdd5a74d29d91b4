-- A clause whose connected literal was met before the others were copied: its literals in their order.
use Rattle.std.proofs.Common.{◌≤◌, length, arith, ◌≡◌, ℕ, zero, suc, List, [], ◌∷◌, ◌++◌, refl, ap, take, drop}
use Rattle.std.specs.Prelude.{remove}

-- the list with one item more at a place
abbrev pub inserted : {A : Type 0} → ℕ → A → List A → List A
inserted place x xs = take place xs ++ x ∷ drop place xs

-- without that item it is as it was
pub inserted-removed : {A : Type 0} (place : ℕ) (x : A) (xs : List A) → place ≤ length xs → remove (inserted place x xs) place ≡ xs
inserted-removed zero x xs l = refl
inserted-removed (suc place) x [] l = absurd (omega arith)
inserted-removed (suc place) x (y ∷ xs) l = ap (λ zs. y ∷ zs) (inserted-removed place x xs (omega (arith, l)))
