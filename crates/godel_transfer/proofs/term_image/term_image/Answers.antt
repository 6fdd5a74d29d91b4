use Rattle.std.proofs.Common.{map, sym, ap, ◌∙◌}
use Rattle.godel_transfer.specs.BranchView.{the_eigens}
use Rattle.godel_transfer.specs.RowImages.{item_image}
use Rattle.godel_transfer.specs.Transfer.{term_image}
use Rattle.godel_transfer.proofs.RowImages.{row-image}
use Rattle.godel_transfer.proofs.term_image.term_image.Goals as goal

pub new-requires : goal.new-requires
new-requires c = (term_image (the_eigens c.args.eigens.now) c.args.t.now, c.in_ok-items.ensures ∙ ap (map (item_image (the_eigens c.args.eigens.now))) c.items.ensures ∙ sym (row-image (the_eigens c.args.eigens.now) c.args.t.now))

pub returns : goal.returns
returns c = c.new.ensures _ (c.in_ok-items.ensures ∙ ap (map (item_image (the_eigens c.args.eigens.now))) c.items.ensures ∙ sym (row-image (the_eigens c.args.eigens.now) c.args.t.now))
