use Rattle.std.proofs.Common.{sym, ◌∙◌}
use Rattle.name_order.specs.ByNumber.Inside.{the_names}
use Rattle.name_order.specs.ByNumber.NameView.{the_name}
use Rattle.name_order.proofs.ByNumber.NameSets.{name-found}
use Rattle.name_order.proofs.ByNumber.NumberLaws.{number-none, number-some}
use Rattle.name_order.proofs.terms.number_in.Goals as goal

pub returns-in-Some : goal.returns-in-Some
returns-in-Some c =
    let ls = c.args.table.now in
    let found = c.get_index_of.ensures.index ∙ name-found ls c.normal_name-name.ensures.apart c.args.names.now.keys c.normal_name-name.result _ c.requires.normal c.normal_name-name.ensures.normal c.normal_name-name.ensures.same in
    number-some (the_names ls c.args.names.now.keys) (the_name ls c.args.name) c.in-Some.place (sym c.in-Some.is ∙ found)

pub returns-in-None : goal.returns-in-None
returns-in-None c =
    let ls = c.args.table.now in
    let found = c.get_index_of.ensures.index ∙ name-found ls c.normal_name-name.ensures.apart c.args.names.now.keys c.normal_name-name.result _ c.requires.normal c.normal_name-name.ensures.normal c.normal_name-name.ensures.same in
    number-none (the_names ls c.args.names.now.keys) (the_name ls c.args.name) (sym c.in-None.is ∙ found)
