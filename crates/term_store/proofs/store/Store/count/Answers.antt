use Rattle.store_theory.specs.Bindings.{HasRank}
use Rattle.store_theory.proofs.BindingLaws.{HasNoCycle-rank}
use Rattle.std.proofs.Common.{ap, arith, length, subst}
use Rattle.term_store.proofs.StoreFacts.{length-cells}
use Rattle.term_store.proofs.store.Store.count.Goals as goal

pub returns-clause-places : goal.returns-clause-places
returns-clause-places c =
    let l = length-cells c.self.inside.cells.list c.self.inside.parts.items in
    let m = ap (λ v. length v.store.cells) c.self.view_is in
    let places = c.self.invariant.places in
    omega arith

pub returns-clause-no_cycle : goal.returns-clause-no_cycle
returns-clause-no_cycle c = HasNoCycle-rank c.args.self.now.store (subst (λ v. HasRank v.store) c.self.view_is c.self.invariant.rank)
