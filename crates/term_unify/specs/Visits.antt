-- What was visited.
use Rattle.std.specs.Prelude.{ℕ, List, Bool, ◌&&◌, ◌==◌}
use Rattle.std.specs.List.{list_any}

-- the pair is in the list
abbrev pub was_seen : List (ℕ × ℕ) → ℕ → ℕ → Bool
was_seen pairs a b = list_any (λ p. a == p.0 && b == p.1) pairs
