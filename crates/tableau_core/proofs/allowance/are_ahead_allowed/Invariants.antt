use Rattle.std.proofs.Common.{◌≡◌, map}
use Rattle.tableau_core.specs.Numbered.Ahead.{are_ahead_allowed, bound}
use Rattle.tableau_core.specs.Numbered.SpotView.{the_mark_at}
use Rattle.tableau_core.proofs.allowance.are_ahead_allowed.Given as goal

abbrev pub invariant-loop-number : goal.invariant-loop-number
invariant-loop-number l = are_ahead_allowed l.problem (map (the_mark_at l.table) l.at) l.table l.ahead.keys ≡ are_ahead_allowed l.problem (map (the_mark_at l.table) l.at) l.table l.fn.ahead.keys

abbrev pub decreases-loop-number : goal.decreases-loop-number
decreases-loop-number l = bound l.ahead.keys
