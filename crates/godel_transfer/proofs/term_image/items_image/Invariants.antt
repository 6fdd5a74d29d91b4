use Rattle.std.proofs.Common.{◌≡◌, map, take}
use Rattle.godel_transfer.specs.BranchView.{the_eigens}
use Rattle.godel_transfer.specs.ImagesView.{AreImages}
use Rattle.godel_transfer.specs.RowImages.{item_image}
use Rattle.godel_transfer.proofs.term_image.items_image.Given as goal

abbrev pub invariant-loop-item : goal.invariant-loop-item
invariant-loop-item l = l.images.items ≡ map (item_image (the_eigens l.eigens)) (take l.item-index l.items)
