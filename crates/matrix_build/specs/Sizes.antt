-- The sizes of the parts of a formula in preorder: where they stand, a walk finds the position of a second component.
use Rattle.std.specs.Prelude.{◌≡◌, ℕ, suc, ◌+◌, ◌≤◌, List, [], ◌∷◌, ◌++◌, length, slice_index}
use Rattle.calculus.specs.Positions.{size}
use Rattle.calculus.specs.Syntax.{Formula, atom, neg, conj, disj, imp, all, ex, box, dia}

-- the sizes of the parts in preorder
abbrev pub sizes_of : Formula → List ℕ
sizes_of (atom p ts) = 1 ∷ []
sizes_of (neg a) = suc (size a) ∷ sizes_of a
sizes_of (conj a b) = suc (size a + size b) ∷ (sizes_of a ++ sizes_of b)
sizes_of (disj a b) = suc (size a + size b) ∷ (sizes_of a ++ sizes_of b)
sizes_of (imp a b) = suc (size a + size b) ∷ (sizes_of a ++ sizes_of b)
sizes_of (all a) = suc (size a) ∷ sizes_of a
sizes_of (ex a) = suc (size a) ∷ sizes_of a
sizes_of (box a) = suc (size a) ∷ sizes_of a
sizes_of (dia a) = suc (size a) ∷ sizes_of a

-- those of its proper parts
abbrev pub sizes_below : Formula → List ℕ
sizes_below (atom p ts) = []
sizes_below (neg a) = sizes_of a
sizes_below (conj a b) = sizes_of a ++ sizes_of b
sizes_below (disj a b) = sizes_of a ++ sizes_of b
sizes_below (imp a b) = sizes_of a ++ sizes_of b
sizes_below (all a) = sizes_of a
sizes_below (ex a) = sizes_of a
sizes_below (box a) = sizes_of a
sizes_below (dia a) = sizes_of a

-- n is the size at q, and the positions from there on are in the list
pub record HasSize (sizes : List ℕ) (q n : ℕ) : Type 0 where
  pub within : q + n ≤ length sizes
  pub size_is : slice_index sizes q ≡ n

-- the list has the sizes of the parts of a formula that stands at q
abbrev pub HasSizes : List ℕ → ℕ → Formula → Type 0
HasSizes sizes q (atom p ts) = HasSize sizes q 1
HasSizes sizes q (neg a) = HasSize sizes q (suc (size a)) × HasSizes sizes (q + 1) a
HasSizes sizes q (conj a b) = HasSize sizes q (suc (size a + size b)) × (HasSizes sizes (q + 1) a × HasSizes sizes (q + suc (size a)) b)
HasSizes sizes q (disj a b) = HasSize sizes q (suc (size a + size b)) × (HasSizes sizes (q + 1) a × HasSizes sizes (q + suc (size a)) b)
HasSizes sizes q (imp a b) = HasSize sizes q (suc (size a + size b)) × (HasSizes sizes (q + 1) a × HasSizes sizes (q + suc (size a)) b)
HasSizes sizes q (all a) = HasSize sizes q (suc (size a)) × HasSizes sizes (q + 1) a
HasSizes sizes q (ex a) = HasSize sizes q (suc (size a)) × HasSizes sizes (q + 1) a
HasSizes sizes q (box a) = HasSize sizes q (suc (size a)) × HasSizes sizes (q + 1) a
HasSizes sizes q (dia a) = HasSize sizes q (suc (size a)) × HasSizes sizes (q + 1) a
