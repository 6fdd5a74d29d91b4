-- Where the second of two parts begins tells the parts.
use Rattle.std.proofs.Common.{◌≡◌, ℕ, arith, List, [], ◌∷◌, ◌++◌, refl, sym, subst, inl, inr}
use Rattle.calculus.specs.Instances.{Turn}
use Rattle.calculus.proofs.Members.{Among}
use Rattle.conversion_theory.proofs.FollowLaws.{ArePlaced}

-- where the second part begins tells the parts
pub split-unique : (p : ℕ) (us xs vs ys : List Turn) → us ++ vs ≡ xs ++ ys → ArePlaced p us vs → ArePlaced p xs ys → (us ≡ xs) × (vs ≡ ys)
split-unique p [] [] vs ys e h g = (refl, e)
split-unique p [] (x ∷ xs) vs ys e h g = let low = g.first x (inl refl) in let high = h.second x (subst (λ zs. Among zs x) (sym e) (inl refl)) in absurd (omega arith)
split-unique p (u ∷ us) [] vs ys e h g = let low = h.first u (inl refl) in let high = g.second u (subst (λ zs. Among zs u) e (inl refl)) in absurd (omega arith)
split-unique p (u ∷ us) (x ∷ xs) vs ys e h g =
    let head : u ≡ x = cc in
    let tail : us ++ vs ≡ xs ++ ys = cc in
    let r = split-unique p us xs vs ys tail (record { first = λ z m. h.first z (inr m); second = h.second }) (record { first = λ z m. g.first z (inr m); second = g.second }) in
    (λ i. head i ∷ r.0 i, r.1)
