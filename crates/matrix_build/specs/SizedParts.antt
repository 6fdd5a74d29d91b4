-- The sizes of a formula's components, by its shape.
use Rattle.std.specs.Prelude.{◌≡◌, ℕ, suc, ◌+◌, ◌≤◌, List, [], ◌∷◌, length, slice_index, ⊤}
use Rattle.calculus.specs.declared.kind.Shape.{Shape}
use Rattle.calculus.specs.declared.kind.Shape.TheVariants.{Literal}
use Rattle.calculus.specs.Kinds.{Signed}
use Rattle.calculus.specs.Positions.{size}
use Rattle.matrix_build.specs.Sizes.{HasSizes}

-- of two components that stand behind the position q
pub record HasTwo (sizes : List ℕ) (q : ℕ) (x y : Signed) : Type 0 where
  pub within : q + suc (size x.formula) ≤ length sizes
  pub some : suc (suc q) ≤ length sizes
  pub size_is : slice_index sizes (q + 1) ≡ size x.formula
  pub first : HasSizes sizes (q + 1) x.formula
  pub second : HasSizes sizes (q + suc (size x.formula)) y.formula

abbrev pub HasParts : List ℕ → ℕ → Shape → List Signed → Type 0
HasParts sizes q Literal xs = ⊤
HasParts sizes q h [] = ⊤
HasParts sizes q h (x ∷ []) = HasSizes sizes (q + 1) x.formula
HasParts sizes q h (x ∷ y ∷ zs) = HasTwo sizes q x y
