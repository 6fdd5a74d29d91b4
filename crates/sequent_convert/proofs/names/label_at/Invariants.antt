use Rattle.std.proofs.Common.{◌≡◌, map, take}
use Rattle.conversion_theory.specs.Numbering.{number_of, numbered_label}
use Rattle.tableau_core.specs.Numbered.SpotView.{the_mark_at}
use Rattle.sequent_convert.proofs.names.label_at.Given as goal

abbrev pub invariant-loop-mark : goal.invariant-loop-mark
invariant-loop-mark l = l.label ≡ numbered_label (number_of l.named.names) (map (the_mark_at l.named.lists) (take l.mark-index l.marks))
