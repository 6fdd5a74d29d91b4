use Rattle.std.proofs.Common.{◌≡◌, ℕ, suc, ◌-◌, vec_len}
use Rattle.matrix_build.specs.MatrixView.{places_at}
use Rattle.matrix_build.proofs.index.reach.Given as goal

abbrev pub invariant-growing : goal.invariant-growing
invariant-growing l = (n : ℕ) → places_at n l.rows.items ≡ places_at n l.initial.rows.items

abbrev pub decreases-growing : goal.decreases-growing
decreases-growing l = suc l.number - vec_len l.rows
