use Rattle.std.proofs.Common.{[], ap, map, ◌∙◌}
use Rattle.conversion_theory.specs.Numbering.{name_eq}
use Rattle.name_order.specs.ByNumber.NameView.{the_name}
use Rattle.name_order.specs.ByNumber.Order.{the_names}
use Rattle.name_order.specs.Keeping.{keep_all}
use Rattle.name_order.proofs.ByNumber.OrderLaws.{sorted-names}
use Rattle.name_order.proofs.numbering.number_names.Goals as goal

pub returns-clause-names : goal.returns-clause-names
returns-clause-names c =
    let ls = c.args.table.now in
    sorted-names ls c.in_ok-deep.deep.items c.sort_names.new.names.items (map (the_name ls) c.args.names.now) (map (the_name ls) c.in_ok-all.all.keys) c.in_ok-deep.ensures.names c.in_ok-deep.ensures.depths c.requires.once c.sort_names.ensures.permutation c.in_ok-sort_names.ensures.sorted (c.in_ok-all.ensures.names ∙ ap (λ ds. keep_all name_eq [] (the_names ls ds)) c.deref.ensures.value)
