use Rattle.std.proofs.Common.{◌≡◌, map, take}
use Rattle.conversion_theory.specs.Numbering.{number_of, numbered_label}
use Rattle.formula_core.specs.GroundLists.{the_mark}
use Rattle.sequent_convert.proofs.numbered.label_of.Given as goal

abbrev pub invariant-loop-mark : goal.invariant-loop-mark
invariant-loop-mark l = l.numbered ≡ numbered_label (number_of l.named.names) (map (the_mark l.named.lists) (take l.mark-index l.label))
