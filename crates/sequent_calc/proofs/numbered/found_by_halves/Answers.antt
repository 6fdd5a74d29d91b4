use Rattle.std.proofs.Common.{arith}
use Rattle.std.proofs.lemmas.Bool.Decides.{nat_tests}
use Rattle.sequent_calc.proofs.ByNumber.{none-behind, found-there, none-there}
use Rattle.sequent_calc.proofs.numbered.found_by_halves.Goals as goal

pub returns-then-place-items : goal.returns-then-place-items
returns-then-place-items g c = none-behind c.args.number c.args.items.now c.smaller-place.result c.smaller-place.ensures c.if-place-items.true

pub returns-then-item-number : goal.returns-then-item-number
returns-then-item-number g c = found-there c.args.number c.args.items.now c.smaller-place.result c.index-items-place.result c.smaller-place.ensures c.if-place-items.false c.index-items-place.is (let e = c.if-item-number.true in grind (arith, nat_tests))

pub returns-else-item-number : goal.returns-else-item-number
returns-else-item-number g c = none-there c.args.number c.args.items.now c.smaller-place.result c.index-items-place.result c.smaller-place.ensures c.requires c.if-place-items.false c.index-items-place.is (let e = c.if-item-number.false in grind (arith, nat_tests))
