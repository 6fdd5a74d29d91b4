use Rattle.std.proofs.Common.{◌≡◌, ◌++◌, ◌-◌, map, drop, length, reverse}
use Rattle.tableau_cert.specs.Judging.{goal_of}
use Rattle.tableau_cert.proofs.judging.put_goals.Given as goal

abbrev pub invariant-loop-i : goal.invariant-loop-i
invariant-loop-i l = l.open_goals.items ≡ l.initial.open_goals.items ++ reverse (map (goal_of l.depth) (drop (length l.literals - l.i) l.literals))
