use Rattle.std.proofs.Common.{◌-◌, ap, arith, length}
use Rattle.term_store.proofs.OwnLaws.{variable-there}
use Rattle.term_store.proofs.StoreFacts.{length-cells}
use Rattle.term_store.proofs.store.Store.variable.Goals as goal

pub overflow_add-result : goal.overflow_add-result
overflow_add-result c =
    let w = variable-there c.args.self.now.store c.args.variables.first.0 (c.args.variables.end.0 - c.args.variables.first.0) c.args.k c.requires.0 c.requires.1 in
    let l = length-cells c.self.inside.cells.list c.self.inside.parts.items in
    let m = ap (λ v. length v.store.cells) c.self.view_is in
    let places = c.self.invariant.places in
    let k = w.1 in
    omega arith

pub returns : goal.returns
returns c = (variable-there c.args.self.now.store c.args.variables.first.0 (c.args.variables.end.0 - c.args.variables.first.0) c.args.k c.requires.0 c.requires.1).0
