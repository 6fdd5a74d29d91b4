use Rattle.std.proofs.Common.{◌≡◌}
use Rattle.conversion_theory.specs.Turns.{Name}
use Rattle.name_order.specs.ByNumber.Inside.{AreNormalNames}
use Rattle.name_order.specs.ByNumber.Seeing.{sees}
use Rattle.tableau_core.specs.Numbered.Ahead.{bound}
use Rattle.name_order.proofs.inside.names_by.Given as goal

abbrev pub invariant-loop-number : goal.invariant-loop-number
invariant-loop-number l = record {
  normal : AreNormalNames l.table l.search.names.keys;
  seen : (n : Name) → sees l.table l.search n ≡ sees l.table l.fn.search n;
}

abbrev pub decreases-loop-number : goal.decreases-loop-number
decreases-loop-number l = bound l.search.ahead.keys
