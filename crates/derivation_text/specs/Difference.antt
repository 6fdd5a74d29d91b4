-- The line at which two texts differ first.
use Rattle.std.specs.Prelude.{ℕ, suc, List, [], ◌∷◌, ◌==◌, if◌then◌else◌}

-- its number, where the texts begin in line n. Where they do not differ it is that of the line behind both
abbrev pub line_of_difference : ℕ → List ℕ → List ℕ → ℕ
line_of_difference n [] ys = n
line_of_difference n (x ∷ xs) [] = n
line_of_difference n (x ∷ xs) (y ∷ ys) = if x == y then line_of_difference (if x == 10 then suc n else n) xs ys else n
