-- Large terms before the empty substitution: a term that stands there has its place in the table of substitutions, any other 0.
use Rattle.std.specs.Prelude.{◌≡◌, ⊤, ℕ, ◌<◌, List, [], length, get_or}
use Rattle.calculus.specs.Syntax.{Term, spare}
use Rattle.derivation_branch.specs.Putting.{value_at}
use Rattle.derivation_check.specs.declared.argument.Argument.{Argument}
use Rattle.derivation_check.specs.declared.argument.Argument.TheVariants as argument_is

-- the term is the first one of the substitution at the place, if it has one
abbrev pub IsPut : List (List Term) → Term → ℕ → Type 0
IsPut table t place = 0 < place → (place < length table) × (value_at (get_or table place []) 0 ≡ t)

-- the places of the first n terms of a list
pub record AreFirstPut (n : ℕ) (table : List (List Term)) (terms : List Term) (places : List ℕ) : Type 0 where
  pub count : length places ≡ n
  pub each : (k : ℕ) → k < n → IsPut table (get_or terms k (spare 0)) (get_or places k 0)

abbrev pub ArePut : List (List Term) → List Term → List ℕ → Type 0
ArePut table terms places = AreFirstPut (length terms) table terms places

-- the place of the term of an argument
abbrev pub IsArgumentPut : List (List Term) → Argument → Type 0
IsArgumentPut table argument_is.None = ⊤
IsArgumentPut table (argument_is.Term t k place) = IsPut table t.now place
IsArgumentPut table (argument_is.Name n) = ⊤
