-- Homes whose marks a set of marks has: each with how many of the first marks of the set have them all.
use Rattle.std.specs.Prelude.{◌≡◌, ⊤, ℕ, ◌<◌, ◌≤◌, ◌==◌, Bool, true, List, [], ◌∷◌, length, get_or, take}
use Rattle.std.specs.List.{list_any}
use Rattle.calculus.specs.Calculus.{holds_character}
use Rattle.calculus.specs.Derivations.{Label, new_mark}
use Rattle.derivation_branch.specs.Occurring.{holds}

abbrev pub is_told : ℕ → List (ℕ × ℕ) → Bool
is_told place told = list_any (λ (x : ℕ × ℕ). place == x.0) told

-- none needs more marks
abbrev pub AreCounted : ℕ → List (ℕ × ℕ) → Type 0
AreCounted n [] = ⊤
AreCounted n (x ∷ xs) = (x.1 ≤ n) × AreCounted n xs

-- a home that was added later needs no fewer marks
abbrev pub AreRising : ℕ → List (ℕ × ℕ) → Type 0
AreRising n [] = ⊤
AreRising n (x ∷ xs) = (n ≤ x.1) × AreRising x.1 xs

-- the marks of the label at the place are in the set
abbrev pub HasMarks : List Label → List ℕ → ℕ → Type 0
HasMarks labels marks place = (n : ℕ) → holds_character (new_mark n) (get_or labels place []) ≡ true → holds marks n ≡ true

pub record IsTold (labels : List Label) (marks : List ℕ) (x : ℕ × ℕ) : Type 0 where
  pub within : x.0 < length labels
  pub count : x.1 ≤ length marks
  pub there : HasMarks labels (take x.1 marks) x.0

abbrev pub AreTold : List Label → List ℕ → List (ℕ × ℕ) → Type 0
AreTold labels marks [] = ⊤
AreTold labels marks (x ∷ xs) = IsTold labels marks x × AreTold labels marks xs

-- so are those of the label at the place `at`, and of the homes that are told
pub record AreThere (labels : List Label) (at : ℕ) (marks : List ℕ) (told : List (ℕ × ℕ)) : Type 0 where
  pub within : at < length labels
  pub label : HasMarks labels marks at
  pub homes : AreTold labels marks told
