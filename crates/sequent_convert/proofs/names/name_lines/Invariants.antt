use Rattle.std.proofs.Common.{◌≡◌, map, take}
use Rattle.conversion_theory.specs.Numbering.{eigen_names, spare_names, number_of}
use Rattle.name_order.specs.ByNumber.NameView.{the_name}
use Rattle.sequent_convert.proofs.names.name_lines.Given as goal

abbrev pub invariant-loop-name : goal.invariant-loop-name
invariant-loop-name l = (l.names.eigens ≡ eigen_names (number_of l.named.names) l.problem (map (the_name l.named.lists) (take l.name-index l.name-items))) × (l.names.spares ≡ spare_names (number_of l.named.names) (map (the_name l.named.lists) (take l.name-index l.name-items)))
