use Rattle.std.proofs.Common.{ap, arith, refl, subst, ◌||◌, ◌∙◌, map}
use Rattle.std.specs.List.{flat_map}
use Rattle.formula_core.specs.GroundLists.{the_value}
use Rattle.name_order.specs.ByNumber.Inside.{has, the_names}
use Rattle.name_order.specs.ByNumber.ReachedView.{the_all, the_reached}
use Rattle.name_order.specs.ByNumber.Seeing.{Sees}
use Rattle.name_order.specs.Mentioned.{names_in, names_in_turn}
use Rattle.name_order.proofs.ByNumber.InsideLaws.{has-among, see-step, seen-end}
use Rattle.name_order.proofs.inside.names_by_turns.Goals as goal

pub loop-turn-init : goal.loop-turn-init
loop-turn-init c =
    let ls = c.args.table.now in
    record {
      normal = c.start-search.ensures.normal ls;
      seen = λ n. ap (λ b. b || has n (flat_map names_in_turn (the_all ls c.args.reached.now))) (c.start-search.ensures.none ls n);
    }

pub loop-turn-preserved : goal.loop-turn-preserved
loop-turn-preserved c =
    let ls = c.args.table.now in
    record {
      normal = c.in_ok-see_all.ensures.normal;
      seen = see-step ls (λ rs. flat_map names_in_turn (the_all ls rs)) (λ r. names_in_turn (the_reached ls r)) (λ r rs. refl) c.loop-turn.search c.see_all.new.search c.args.reached.now c.loop-turn.turn-index c.turn-item.result _ _ (omega arith) c.turn-item.is (subst (λ vs. Sees ls c.loop-turn.search c.see_all.new.search (names_in (map (the_value ls) vs))) c.as_slice-values.ensures.value c.in_ok-see_all.ensures) c.loop-turn.invariant.seen;
    }

pub returns : goal.returns
returns c =
    let ls = c.args.table.now in
    has-among (the_names ls c.in_ok-names.names.keys) (flat_map names_in_turn (the_all ls c.args.reached.now)) (λ n. c.in_ok-names.ensures n ∙ seen-end ls (λ rs. flat_map names_in_turn (the_all ls rs)) refl c.loop-turn.search c.args.reached.now c.loop-turn.turn-index _ (omega arith) c.loop-turn.invariant.seen n)
