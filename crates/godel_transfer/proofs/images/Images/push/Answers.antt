use Rattle.std.proofs.Common.{arith}
use Rattle.godel_transfer.specs.ImagesView.{AreImages, images_of}
use Rattle.godel_transfer.proofs.ImagesUpdates.{push-kept}
use Rattle.godel_transfer.proofs.images.Images.push.Goals as goal

pub returns-clause-images : goal.returns-clause-images
returns-clause-images c =
    let size = c.in_ok-place.ensures in
    let count = c.len.ensures in
    push-kept c.args.self.now (record { items = c.push.new.self; places = c.insert.new.self }) (record { number = c.args.number; image = c.args.image; before = c.place-before.result }) c.in_ok-place.place c.in_ok-push.ensures.items c.place-before.ensures (omega arith) c.in_ok-insert.ensures.updates.0 c.requires.images
