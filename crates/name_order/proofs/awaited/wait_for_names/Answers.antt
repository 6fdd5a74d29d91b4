use Rattle.std.proofs.Common.{◌==◌, arith, map, refl}
use Rattle.name_order.specs.ByNumber.Inside.{all_with_marks, with_marks}
use Rattle.name_order.specs.ByNumber.NameView.{the_name}
use Rattle.name_order.specs.Found.{introducers_in}
use Rattle.name_order.specs.ByNumber.ReachedView.{the_keys}
use Rattle.name_order.specs.PlaceView.{the_places}
use Rattle.name_order.proofs.ByNumber.SetLaws.{kept-step}
use Rattle.name_order.proofs.ByNumber.WaitLaws.{introducers-append}
use Rattle.name_order.proofs.awaited.wait_for_names.Goals as goal

pub loop-name-preserved : goal.loop-name-preserved
loop-name-preserved c =
    let P = c.args.problem.now in
    let ls = c.args.table.now in
    let ps = the_places c.args.places.now in
    let ks = the_keys ls c.args.agenda.now.keys in
    kept-step ◌==◌ (λ ns. introducers_in ps ks (all_with_marks P (map (the_name ls) ns))) (λ n. introducers_in ps ks (with_marks P (the_name ls n))) (λ n ns. introducers-append ps ks (with_marks P (the_name ls n)) (all_with_marks P (map (the_name ls) ns))) c.loop-name.waits.keys c.wait_for_name.new.waits.keys _ c.args.names.now c.loop-name.name-index _ _ (omega arith) refl c.in_ok-wait_for_name.ensures c.loop-name.invariant
