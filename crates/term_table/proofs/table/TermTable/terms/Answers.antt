use Rattle.std.proofs.Common.{map, sym, ap, ◌∙◌, arith}
use Rattle.std.proofs.lemmas.List.{get_or-map, length-map}
use Rattle.term_table.proofs.TableLaws.{count-is, none-read, read-is}
use Rattle.term_table.proofs.table.TermTable.terms.Goals as goal

pub returns-then-list-len : goal.returns-then-list-len
returns-then-list-len c =
    let lists = c.self.inside.lists.items in
    let n = length-map lists (λ v. v.items) in
    let m = c.len.ensures in
    let lt = c.if-list-len.true in
    read-is (map (λ v. v.items) lists) c.args.self.now c.args.list c.as_slice.result.now c.self.view_is c.self.invariant (omega (arith, n, m, lt))
    (get_or-map (λ v. v.items) lists c.args.list c.index.result.now _ (omega (arith, m, lt)) ∙ ap (λ v. v.items) (sym c.index.ensures) ∙ sym c.as_slice.ensures.value)

pub returns-else-list-len : goal.returns-else-list-len
returns-else-list-len c =
    let lists = c.self.inside.lists.items in
    let n = length-map lists (λ v. v.items) in
    let k = count-is (map (λ v. v.items) lists) c.args.self.now c.self.view_is in
    let m = c.len.ensures in
    let ge = c.if-list-len.false in
    none-read c.args.self.now c.args.list (omega (arith, n, k, m, ge))
