use Rattle.std.proofs.Common.{[], ◌∷◌, ap, arith, map, refl, ◌∙◌}
use Rattle.conversion_theory.specs.Numbering.{name_eq}
use Rattle.conversion_theory.specs.Turns.{mark_name}
use Rattle.formula_core.specs.GroundLists.{the_value, the_values}
use Rattle.name_order.specs.ByNumber.Naming.{the_names}
use Rattle.name_order.specs.Keeping.{keep_all}
use Rattle.name_order.proofs.ByNumber.SetLaws.{kept-step}
use Rattle.name_order.proofs.ByNumber.WaitLaws.{home-marks}
use Rattle.tableau_core.specs.Numbered.SpotView.{the_mark_at}
use Rattle.name_order.proofs.naming.add_home.Goals as goal

pub loop-mark-init : goal.loop-mark-init
loop-mark-init c =
    let ls = c.args.source.now in
    record {
      good = c.requires.good;
      names = ap (keep_all name_eq (the_names c.args.naming.now)) (ap (map (λ m. mark_name (the_mark_at ls m))) c.as_slice-marks.ensures.value ∙ home-marks c.args.problem.now ls c.args.position.0 (the_values ls c.args.values) (map (the_value ls) c.values-list.result.now) c.in_ok-home.home.items c.in_ok-home.ensures c.values-list.ensures.list);
      turns = refl;
    }

pub loop-mark-preserved : goal.loop-mark-preserved
loop-mark-preserved c =
    let ls = c.args.source.now in
    record {
      good = c.in_ok-add_mark_at.ensures.good;
      names = kept-step name_eq (λ ms. map (λ m. mark_name (the_mark_at ls m)) ms) (λ m. mark_name (the_mark_at ls m) ∷ []) (λ m ms. refl) (the_names c.loop-mark.naming) (the_names c.add_mark_at.new.naming) _ c.as_slice-marks.result.now c.loop-mark.mark-index _ _ (omega arith) refl c.in_ok-add_mark_at.ensures.names c.loop-mark.invariant.names;
      turns = c.in_ok-add_mark_at.ensures.turns ∙ c.loop-mark.invariant.turns;
    }
