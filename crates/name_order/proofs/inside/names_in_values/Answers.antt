use Rattle.std.proofs.Common.{ap, map, ◌||◌, ◌∙◌}
use Rattle.formula_core.specs.GroundLists.{the_value}
use Rattle.name_order.specs.ByNumber.Inside.{has, the_names}
use Rattle.name_order.specs.Mentioned.{names_in}
use Rattle.name_order.proofs.ByNumber.InsideLaws.{has-among}
use Rattle.name_order.proofs.inside.names_in_values.Goals as goal

pub see_all-requires : goal.see_all-requires
see_all-requires c = record { normal = c.start-search.ensures.normal c.args.table.now }

pub returns : goal.returns
returns c =
    let ls = c.args.table.now in
    let ns = names_in (map (the_value ls) c.args.values.now) in
    has-among (the_names ls c.in_ok-names.names.keys) ns (λ n. c.in_ok-names.ensures n ∙ c.in_ok-see_all.ensures.seen n ∙ ap (λ b. b || has n ns) (c.start-search.ensures.none ls n))
