use Rattle.derivation_branch.proofs.RisingLaws.{none-behind, there}
use Rattle.derivation_branch.proofs.number_set.is_among.Goals as goal

pub returns-then-place-items : goal.returns-then-place-items
returns-then-place-items c = none-behind c.args.number c.args.items.now c.smaller-place.result c.smaller-place.ensures c.if-place-items.true

pub returns : goal.returns
returns c = there c.args.number c.args.items.now c.smaller-place.result c.smaller-place.ensures c.requires c.if-place-items.false
