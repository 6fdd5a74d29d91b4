-- Selections behind sides, as they are added from the top down.
use Rattle.std.specs.Prelude.{List, ◌∷◌, ◌++◌, map}
use Rattle.calculus.specs.declared.sign.Side.{Side}
use Rattle.calculus.specs.declared.sign.Side.TheVariants.{Left, Right}

-- each behind these sides
abbrev pub behind : List Side → List (List Side) → List (List Side)
behind ds xs = map (λ x. ds ++ x) xs

-- those of an alpha formula: the selections of either part, each behind its side
abbrev pub alpha_selections : List (List Side) → List (List Side) → List (List Side)
alpha_selections xs ys = map (λ x. Left ∷ x) xs ++ map (λ y. Right ∷ y) ys
