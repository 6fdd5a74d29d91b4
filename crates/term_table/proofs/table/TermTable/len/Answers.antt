use Rattle.std.proofs.Common.{arith}
use Rattle.std.proofs.lemmas.List.{length-map}
use Rattle.term_table.proofs.TableLaws.{count-is}
use Rattle.term_table.proofs.table.TermTable.len.Goals as goal

pub returns : goal.returns
returns c =
    let m = c.len.ensures in
    let n = length-map c.self.inside.lists.items (λ v. v.items) in
    let k = count-is _ c.args.self.now c.self.view_is in
    omega (arith, m, n, k)
