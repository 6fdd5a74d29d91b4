use Rattle.std.proofs.Common.{◌≡◌, ◌+◌, ◌++◌, ℕ, List, drop, length}
use Rattle.sequent_convert.specs.ByNumber.AheadView.{sizes_among}
use Rattle.sequent_convert.proofs.ahead.behind_closings.Given as goal

abbrev pub invariant-loop-goal : goal.invariant-loop-goal
invariant-loop-goal l = ((rest : List ℕ) × (drop l.at l.sizes ≡ sizes_among (drop l.goal-index l.goals) ++ rest)) × (l.at + length (sizes_among (drop l.goal-index l.goals)) ≡ l.place + length (sizes_among l.goals))
