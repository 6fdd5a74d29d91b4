use Rattle.std.proofs.Common.{◌≡◌, length}
use Rattle.conversion_theory.specs.Numbering.{number_of}
use Rattle.name_order.specs.ByNumber.Inside.{the_names}
use Rattle.name_order.specs.ByNumber.Numbered.{AreNumbered}
use Rattle.name_order.proofs.terms.numbered_lists.Given as goal

abbrev pub invariant-loop-number : goal.invariant-loop-number
invariant-loop-number l = record {
  count : length l.lists ≡ l.number;
  numbered : AreNumbered (number_of (the_names l.table l.names.keys)) l.table l.number l.lists;
}
