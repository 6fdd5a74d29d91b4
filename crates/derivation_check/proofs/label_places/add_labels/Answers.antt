use Rattle.std.proofs.Common.{◌+◌, ◌∙◌, [], refl}
use Rattle.label_table.proofs.TableLaws.{longer-more, longer-self}
use Rattle.derivation_check.proofs.ArgumentLaws.{no-places, number-read, place-put}
use Rattle.derivation_check.proofs.label_places.add_labels.Goals as goal

pub loop-i-init : goal.loop-i-init
loop-i-init c = record { places = no-places c.args.stated.now c.args.table.now c.new-places.result.items c.new-places.ensures.items; grown = longer-self c.args.table.now }

pub loop-i-preserved : goal.loop-i-preserved
loop-i-preserved c =
    let labels = c.args.stated.now in
    let i = c.loop-i.i in
    let table = c.loop-i.table in
    let more = c.add.new.self in
    let place = c.in_ok-place.ensures.place in
    record {
      places = place-put i c.in_ok-place.place labels table more c.loop-i.places.items c.push.new.self.items c.in_ok-place.ensures.grown c.loop-i.invariant.places place.0 (place.1 ∙ c.in_ok-label.ensures ∙ number-read labels (i + 1) i [] refl) c.in_ok-push.ensures.items;
      grown = longer-more c.args.table.now table more c.loop-i.invariant.grown c.in_ok-place.ensures.grown;
    }
