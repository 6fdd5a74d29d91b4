use Rattle.std.proofs.Common.{ap, arith}
use Rattle.tableau_core.specs.Numbered.Ahead.{bound}
use Rattle.tableau_core.proofs.Numbered.AheadLaws.{append-bound, below-bound}
use Rattle.tableau_core.proofs.allowance.are_ahead_allowed.Goals as goal

pub are_items_allowed-requires : goal.are_items_allowed-requires
are_items_allowed-requires c = below-bound c.pop_last.new.self.keys c.in-Some.number c.in-Some.ensures.all_below

pub loop-number-smaller : goal.loop-number-smaller
loop-number-smaller c =
    let after = c.in_ok-are_items_allowed.ensures.bound in
    let before = ap bound c.in-Some.ensures.removal in
    let seam = append-bound c.pop_last.new.self.keys c.in-Some.number in
    omega (arith, after, before, seam)
