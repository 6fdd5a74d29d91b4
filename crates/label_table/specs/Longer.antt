-- Lists that grow.
use Rattle.std.specs.Prelude.{◌≡◌, List, ◌++◌}

-- items were added at the end
abbrev pub IsLonger : {A : Type 0} → List A → List A → Type 0
IsLonger {A} xs ys = (more : List A) × (ys ≡ xs ++ more)
