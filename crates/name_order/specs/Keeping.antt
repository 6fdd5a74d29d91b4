-- A list without repetitions: each item is kept where no equal one was kept before.
use Rattle.std.specs.Prelude.{List, [], ◌∷◌, ◌++◌, Bool, ◌&&◌, ◌==◌, if◌then◌else◌}
use Rattle.std.specs.List.{list_any}
use Rattle.calculus.specs.Equality.{values_eq}
use Rattle.calculus.specs.Ground.{values_tree}
use Rattle.calculus.specs.Instances.{Turn}

abbrev pub keep : {A : Type 0} → (A → A → Bool) → List A → A → List A
keep eq kept x = if list_any (eq x) kept then kept else kept ++ x ∷ []

-- the items kept, and of the others those that are new
abbrev pub keep_all : {A : Type 0} → (A → A → Bool) → List A → List A → List A
keep_all eq kept [] = kept
keep_all eq kept (x ∷ xs) = keep_all eq (keep eq kept x) xs

abbrev pub turn_eq : Turn → Turn → Bool
turn_eq x y = (x.position == y.position) && values_eq (values_tree x.values) (values_tree y.values)
