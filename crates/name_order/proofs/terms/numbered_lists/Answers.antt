use Rattle.std.proofs.Common.{refl, sym, ap, arith, ◌∙◌, ◌≡◌, ◌+◌, ◌∷◌, [], map, length}
use Rattle.std.proofs.lemmas.List.{length-append}
use Rattle.conversion_theory.specs.Numbering.{number_of}
use Rattle.name_order.specs.ByNumber.Inside.{the_names}
use Rattle.term_table.specs.Table.{the_table_term}
use Rattle.name_order.proofs.ByNumber.TermLaws.{list-numbered}
use Rattle.name_order.proofs.terms.numbered_lists.Goals as goal

pub loop-number-preserved : goal.loop-number-preserved
loop-number-preserved c =
    let num = number_of (the_names c.args.table.now c.args.names.now.keys) in
    let old = c.loop-number.lists in
    let items = c.in_ok-list.list.items in
    let n = length-append old (map (the_table_term old) items ∷ []) in
    let m = ap length c.in_ok-push.ensures.ok in
    let k = c.loop-number.invariant.count in
    record {
      count = omega (arith, n, m, k);
      numbered = λ j lt. list-numbered num c.args.table.now c.loop-number.number old c.push.new.self items k c.loop-number.invariant.numbered c.in_ok-push.ensures.ok (c.in_ok-list.ensures.terms old c.loop-number.invariant.numbered) j (omega (arith, lt));
    }
