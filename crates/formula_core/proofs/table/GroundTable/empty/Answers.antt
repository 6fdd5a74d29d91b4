use Rattle.std.proofs.Common.{arith, length, map}
use Rattle.std.proofs.lemmas.List.{length-map}
use Rattle.formula_core.specs.GroundTables.{items_of}
use Rattle.formula_core.proofs.EntryLaws.{keys-length}
use Rattle.formula_core.proofs.table.GroundTable.empty.Goals as goal

pub returns-clause-most : goal.returns-clause-most
returns-clause-most c =
    let n = keys-length c.self.inside.entries.keys c.args.self.now c.self.view_is in
    let m = c.self.invariant.most in
    let k = length-map c.self.inside.entries.keys items_of in
    omega (arith, n, m, k)
