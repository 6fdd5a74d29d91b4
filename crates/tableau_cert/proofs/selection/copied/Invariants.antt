use Rattle.std.proofs.Common.{◌≡◌, take}
use Rattle.tableau_cert.proofs.selection.copied.Given as goal

abbrev pub invariant-loop-side : goal.invariant-loop-side
invariant-loop-side l = l.all ≡ take l.side-index l.items
