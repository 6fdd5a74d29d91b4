use Rattle.std.proofs.Common.{◌≡◌, map, drop}
use Rattle.conversion_theory.specs.Numbering.{name_eq}
use Rattle.name_order.specs.ByNumber.Inside.{all_with_marks}
use Rattle.name_order.specs.ByNumber.NameView.{the_name}
use Rattle.name_order.specs.ByNumber.Naming.{IsNaming, the_names, the_turns}
use Rattle.name_order.specs.Keeping.{keep_all}
use Rattle.name_order.proofs.naming.add_with_homes.Given as goal

abbrev pub invariant-loop-name : goal.invariant-loop-name
invariant-loop-name l = record {
  good : IsNaming l.source l.naming;
  names : keep_all name_eq (the_names l.naming) (all_with_marks l.problem (map (the_name l.source) (drop l.name-index l.names))) ≡ keep_all name_eq (the_names l.initial.naming) (all_with_marks l.problem (map (the_name l.source) l.names));
  turns : the_turns l.naming ≡ the_turns l.initial.naming;
}
