use Rattle.std.proofs.Common.{arith, refl}
use Rattle.std.specs.List.{flat_map}
use Rattle.conversion_theory.specs.Numbering.{name_eq}
use Rattle.name_order.specs.ByNumber.Naming.{the_names, the_turns}
use Rattle.name_order.specs.ByNumber.ReachedView.{the_all, the_reached}
use Rattle.name_order.specs.Mentioned.{introduced_in}
use Rattle.name_order.specs.PlaceView.{the_places}
use Rattle.name_order.proofs.ByNumber.GrowLaws.{turns-step}
use Rattle.name_order.proofs.ByNumber.SetLaws.{kept-step}
use Rattle.name_order.proofs.naming.add_turns.Goals as goal

pub loop-turn-preserved : goal.loop-turn-preserved
loop-turn-preserved c =
    let ls = c.args.source.now in
    let ps = the_places c.args.places.now in
    record {
      good = c.in_ok-add_turn.ensures.good;
      names = kept-step name_eq (λ rs. flat_map (introduced_in ps) (the_all ls rs)) (λ r. introduced_in ps (the_reached ls r)) (λ r rs. refl) (the_names c.loop-turn.naming) (the_names c.add_turn.new.naming) _ c.args.turns.now c.loop-turn.turn-index c.turn-item.result _ (omega arith) c.turn-item.is c.in_ok-add_turn.ensures.names c.loop-turn.invariant.names;
      turns = turns-step (the_reached ls) c.args.turns.now c.loop-turn.turn-index c.turn-item.result _ (the_turns c.args.naming.now) (the_turns c.loop-turn.naming) (the_turns c.add_turn.new.naming) (omega arith) c.turn-item.is c.loop-turn.invariant.turns c.in_ok-add_turn.ensures.turns;
    }
