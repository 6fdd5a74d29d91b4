use Rattle.std.proofs.Common.{ap, ◌∙◌}
use Rattle.std.specs.List.{flat_map}
use Rattle.conversion_theory.specs.Numbering.{name_eq}
use Rattle.name_order.specs.ByNumber.Inside.{all_with_marks}
use Rattle.name_order.specs.ByNumber.Inside as inside
use Rattle.name_order.specs.ByNumber.Naming.{the_names}
use Rattle.name_order.specs.ByNumber.ReachedView.{the_all}
use Rattle.name_order.specs.Keeping.{keep_all}
use Rattle.name_order.specs.Mentioned.{introduced_in}
use Rattle.name_order.specs.PlaceView.{the_places}
use Rattle.name_order.proofs.ByNumber.HomeLaws.{names-gathered}
use Rattle.name_order.proofs.naming.name_all.Goals as goal

pub returns-clause-names : goal.returns-clause-names
returns-clause-names c =
    let P = c.args.problem.now in
    let ls = c.args.source.now in
    let ps = the_places c.args.places.now in
    let xs = the_all ls c.args.agenda.now in
    names-gathered P ps xs (inside.the_names ls c.in_ok-inside.inside.keys) (the_names c.add_turns.new.naming) c.in_ok-inside.ensures (c.in_ok-add_turns.ensures.names ∙ ap (λ ks. keep_all name_eq ks (flat_map (introduced_in ps) xs)) (c.in_ok-add_with_homes.ensures.names ∙ ap (λ ns. keep_all name_eq (the_names c.in_ok-naming.naming) (all_with_marks P (inside.the_names ls ns))) c.as_slice.ensures.keys ∙ ap (λ ks. keep_all name_eq ks (all_with_marks P (inside.the_names ls c.in_ok-inside.inside.keys))) c.in_ok-naming.ensures.names))
