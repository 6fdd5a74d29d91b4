use Rattle.std.proofs.Common.{◌≡◌, ◌<◌, map, drop}
use Rattle.calculus.specs.Lists.{closings_tree}
use Rattle.tableau_core.specs.Numbered.Closings.{closing_size, closing_list_size}
use Rattle.tableau_core.specs.Numbered.ClosingView.{closing_in, the_closing}
use Rattle.tableau_core.specs.Numbered.LiteralView.{the_literal}
use Rattle.tableau_core.specs.Counted.{closed_all}
use Rattle.tableau_core.proofs.closed.+closed.Given as goal

-- The rest of the goals is closed by the rest of the closings; closings get smaller.

abbrev pub invariant-closes_all-loop-i : goal.invariant-closes_all-loop-i
invariant-closes_all-loop-i l = record {
  goals : closed_all l.problem l.limit (map (the_literal l.table) l.path) (map (the_literal l.table) (drop l.i l.goals)) (closings_tree (map (λ y. closing_in l.table (the_closing y)) (drop l.i l.items))) l.count ≡ closed_all l.problem l.limit (map (the_literal l.table) l.path) (map (the_literal l.table) l.goals) (closings_tree (map (closing_in l.table) l.closings)) l.fn.so_far;
  small : l.count.steps < 18446744073709551616;
}

abbrev pub decreases-closes : goal.decreases-closes
decreases-closes l = closing_size (the_closing l.closing.now)

abbrev pub decreases-closes_all : goal.decreases-closes_all
decreases-closes_all l = closing_list_size l.closings.now
