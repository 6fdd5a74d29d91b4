-- From what the parts of the program compute to what is promised of the whole.
use Rattle.std.proofs.Common.{◌≡◌, List, [], ◌∷◌, ◌++◌, map, refl, ap}
use Rattle.std.specs.List.{flat_map}
use Rattle.calculus.specs.Instances.{Turn}
use Rattle.calculus.specs.Syntax.{Problem}
use Rattle.conversion_theory.specs.Turns.{names_introduced}
use Rattle.name_order.specs.Arranged.{joined}
use Rattle.name_order.specs.Mentioned.{introduced_in}
use Rattle.name_order.specs.Places.{places_of}
use Rattle.name_order.proofs.PlaceLaws.{delta-is, pi-is}

pub joined-map : {A B : Type 0} (f : A → List B) (xs : List A) → joined (map f xs) ≡ flat_map f xs
joined-map f [] = refl
joined-map f (x ∷ xs) = ap (λ ys. f x ++ ys) (joined-map f xs)

pub map-map : {A B C : Type 0} (g : B → C) (f : A → B) (xs : List A) → map g (map f xs) ≡ map (λ x. g (f x)) xs
map-map g f [] = refl
map-map g f (x ∷ xs) = ap (λ ys. g (f x) ∷ ys) (map-map g f xs)

introduced-same : (P : Problem) (x : Turn) → introduced_in (places_of P) x ≡ names_introduced P x
introduced-same P x = rw (delta-is P x.position, pi-is P x.position) refl

pub all-introduced : (P : Problem) (xs : List Turn) → flat_map (introduced_in (places_of P)) xs ≡ flat_map (names_introduced P) xs
all-introduced P [] = refl
all-introduced P (x ∷ xs) = rw (introduced-same P x, all-introduced P xs) refl
