use Rattle.std.proofs.Common.{◌≡◌, length}
use Rattle.godel_transfer.specs.ImagesView.{AreImages, images_of, latest}
use Rattle.godel_transfer.proofs.images.Images.cut.Given as goal

abbrev pub invariant-loop-self : goal.invariant-loop-self
invariant-loop-self l = record {
  kept : AreImages l.self;
  same : latest l.count (images_of l.self) ≡ latest l.count (images_of l.initial.self);
}

abbrev pub decreases-loop-self : goal.decreases-loop-self
decreases-loop-self l = length (images_of l.self)
