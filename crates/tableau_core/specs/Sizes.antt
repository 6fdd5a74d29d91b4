-- The sizes of the parts of a formula in preorder. What begins with them has the size of each part at its place.
use Rattle.std.specs.Prelude.{◌≡◌, ℕ, suc, ◌+◌, List, [], ◌∷◌, ◌++◌, take}
use Rattle.calculus.specs.Positions.{size}
use Rattle.calculus.specs.Syntax.{Formula, atom, neg, conj, disj, imp, all, ex, box, dia}

abbrev pub sizes_of : Formula → List ℕ
sizes_of (atom p ts) = 1 ∷ []
sizes_of (neg a) = suc (size a) ∷ sizes_of a
sizes_of (conj a b) = suc (size a + size b) ∷ (sizes_of a ++ sizes_of b)
sizes_of (disj a b) = suc (size a + size b) ∷ (sizes_of a ++ sizes_of b)
sizes_of (imp a b) = suc (size a + size b) ∷ (sizes_of a ++ sizes_of b)
sizes_of (all a) = suc (size a) ∷ sizes_of a
sizes_of (ex a) = suc (size a) ∷ sizes_of a
sizes_of (box a) = suc (size a) ∷ sizes_of a
sizes_of (dia a) = suc (size a) ∷ sizes_of a

-- those of its proper parts
abbrev pub sizes_below : Formula → List ℕ
sizes_below (atom p ts) = []
sizes_below (neg a) = sizes_of a
sizes_below (conj a b) = sizes_of a ++ sizes_of b
sizes_below (disj a b) = sizes_of a ++ sizes_of b
sizes_below (imp a b) = sizes_of a ++ sizes_of b
sizes_below (all a) = sizes_of a
sizes_below (ex a) = sizes_of a
sizes_below (box a) = sizes_of a
sizes_below (dia a) = sizes_of a

-- the list begins with them
abbrev pub BeginsWithSizes : List ℕ → Formula → Type 0
BeginsWithSizes sizes f = take (size f) sizes ≡ sizes_of f
