use Rattle.std.proofs.Common.{◌==◌, ap, arith, map, refl, ◌∙◌}
use Rattle.conversion_theory.specs.Turns.{mark_name}
use Rattle.name_order.specs.Found.{introducer_in, introducers_in, listed}
use Rattle.name_order.specs.Keeping.{keep_all}
use Rattle.formula_core.specs.GroundLists.{the_value, the_values}
use Rattle.name_order.specs.ByNumber.ReachedView.{the_keys}
use Rattle.name_order.specs.PlaceView.{the_places}
use Rattle.name_order.proofs.ByNumber.SetLaws.{kept-step}
use Rattle.name_order.proofs.ByNumber.WaitLaws.{home-marks}
use Rattle.tableau_core.specs.Numbered.SpotView.{the_mark_at}
use Rattle.name_order.proofs.awaited.wait_for_home.Goals as goal

pub loop-mark-init : goal.loop-mark-init
loop-mark-init c =
    let ls = c.args.table.now in
    let ps = the_places c.args.places.now in
    let ks = the_keys ls c.args.agenda.now.keys in
    ap (λ ns. keep_all ◌==◌ c.args.waits.now.keys (introducers_in ps ks ns)) (ap (map (λ m. mark_name (the_mark_at ls m))) c.as_slice-marks.ensures.value ∙ home-marks c.args.problem.now ls c.args.position.0 (the_values ls c.args.values) (map (the_value ls) c.values-list.result.now) c.in_ok-home.home.items c.in_ok-home.ensures c.values-list.ensures.list)

pub loop-mark-preserved : goal.loop-mark-preserved
loop-mark-preserved c =
    let ls = c.args.table.now in
    let ps = the_places c.args.places.now in
    let ks = the_keys ls c.args.agenda.now.keys in
    kept-step ◌==◌ (λ ms. introducers_in ps ks (map (λ m. mark_name (the_mark_at ls m)) ms)) (λ m. listed (introducer_in ps ks (mark_name (the_mark_at ls m)))) (λ m ms. refl) c.loop-mark.waits.keys c.wait_for.new.waits.keys _ c.as_slice-marks.result.now c.loop-mark.mark-index _ _ (omega arith) refl (c.in_ok-wait_for.ensures ∙ ap (λ o. keep_all ◌==◌ c.loop-mark.waits.keys (listed o)) c.in_ok-place.ensures) c.loop-mark.invariant
