use Rattle.std.proofs.Common.{◌≡◌, ◌++◌, take, drop}
use Rattle.std.specs.List.{flat_map}
use Rattle.conversion_theory.specs.Numbering.{name_eq}
use Rattle.name_order.specs.Mentioned.{introduced_in}
use Rattle.name_order.specs.PlaceView.{the_places}
use Rattle.name_order.specs.ByNumber.ReachedView.{the_all}
use Rattle.name_order.specs.ByNumber.Naming.{IsNaming, the_names, the_turns}
use Rattle.name_order.specs.Keeping.{keep_all}
use Rattle.name_order.proofs.naming.add_turns.Given as goal

abbrev pub invariant-loop-turn : goal.invariant-loop-turn
invariant-loop-turn l = record {
  good : IsNaming l.source l.naming;
  names : keep_all name_eq (the_names l.naming) (flat_map (introduced_in (the_places l.places)) (the_all l.source (drop l.turn-index l.turns))) ≡ keep_all name_eq (the_names l.initial.naming) (flat_map (introduced_in (the_places l.places)) (the_all l.source l.turns));
  turns : the_turns l.naming ≡ the_turns l.initial.naming ++ the_all l.source (take l.turn-index l.turns);
}
