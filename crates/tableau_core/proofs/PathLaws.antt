-- Ancestors on a path.
use Rattle.std.proofs.Common.{◌≡◌, ℕ, zero, suc, ◌-◌, ◌<◌, List, [], ◌∷◌, length, map, get_or, Some, ap, sym, ◌∙◌, arith}
use Rattle.std.specs.Prelude.{slice_get}
use Rattle.calculus.specs.Ground.{GroundLiteral}
use Rattle.calculus.specs.Tableaux.{ancestor}

get-mapped : {X : Type 0} (f : X → GroundLiteral) (xs : List X) (k : ℕ) (x d : X) → k < length xs → x ≡ get_or xs k d → slice_get (map f xs) k ≡ Some (f x)
get-mapped f [] k x d h e = absurd (omega arith)
get-mapped f (a ∷ xs) zero x d h e = ap (λ y. Some (f y)) (sym e)
get-mapped f (a ∷ xs) (suc k) x d h e = get-mapped f xs k x d (omega arith) e

pub ancestor-at : {X : Type 0} (f : X → GroundLiteral) (xs : List X) (up : ℕ) (x d : X) → 0 < up → up - 1 < length xs → x ≡ get_or xs (up - 1) d → ancestor (map f xs) up ≡ Some (f x)
ancestor-at f xs zero x d z h e = absurd (omega arith)
ancestor-at f xs (suc k) x d z h e = let s : suc k - 1 ≡ k = omega arith in get-mapped f xs k x d (omega (arith, h, s)) (e ∙ ap (λ n. get_or xs n d) s)
