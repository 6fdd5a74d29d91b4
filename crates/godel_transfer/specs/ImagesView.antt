-- What the images of a branch stand for.
use Rattle.std.specs.Prelude.{◌≡◌, ℕ, suc, ◌-◌, ◌==◌, List, [], ◌∷◌, length, map, reverse, drop, Option, Some, None, if◌then◌else◌, nat_eq, get_or}
use Rattle.std.specs.Option.{option_map_or}
use Rattle.indexmap.specs.IndexMap.{get}
use Rattle.godel_transfer.specs.declared.images.Image.{Image}
use Rattle.godel_transfer.specs.declared.images.Images.{Images}

abbrev pub the_image : Image → ℕ × ℕ
the_image x = (x.number, x.image)

-- the latest first
abbrev pub images_of : Images → List (ℕ × ℕ)
images_of x = map the_image (reverse x.items.items)

abbrev pub found : List (ℕ × ℕ) → ℕ → Option ℕ
found [] n = None
found (x ∷ xs) n = if x.0 == n then Some x.1 else found xs n

-- those that were there when there were so many
abbrev pub latest : {A : Type 0} → ℕ → List A → List A
latest n xs = drop (length xs - n) xs

-- how many images there are with the last one of the number, or 0
abbrev pub place_in : List Image → ℕ → ℕ
place_in [] n = 0
place_in (x ∷ xs) n = if x.number == n then suc (length xs) else place_in xs n

-- each image tells of the one before it
abbrev pub AreLinked : List Image → Type 0
AreLinked [] = Unit {0}
AreLinked (x ∷ xs) = (x.before ≡ place_in xs x.number) × AreLinked xs

abbrev pub place_told : Images → ℕ → ℕ
place_told x n = option_map_or (λ k. k) (get nat_eq x.places n) 0

pub record AreImages (x : Images) : Type 0 where
  pub told : (n : ℕ) → place_told x n ≡ place_in (reverse x.items.items) n
  pub linked : AreLinked (reverse x.items.items)
