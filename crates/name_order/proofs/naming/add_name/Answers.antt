use Rattle.std.proofs.Common.{ap, ◌∙◌}
use Rattle.conversion_theory.specs.Numbering.{name_eq}
use Rattle.name_order.specs.ByNumber.Naming.{the_names}
use Rattle.name_order.specs.Keeping.{keep}
use Rattle.name_order.proofs.ByNumber.NameSets.{name-grown}
use Rattle.name_order.proofs.naming.add_name.Goals as goal

pub returns-clause-good : goal.returns-clause-good
returns-clause-good c = record { grown = c.requires.good.grown; names = c.in_ok-keep_name.ensures.normal; turns = c.requires.good.turns }

pub returns-clause-names : goal.returns-clause-names
returns-clause-names c =
    let old = c.args.naming.now in
    c.in_ok-keep_name.ensures.kept ∙ ap (keep name_eq (the_names old)) (name-grown c.args.source.now old.table c.requires.good.grown c.normal_name-name.result c.normal_name-name.ensures.normal ∙ c.normal_name-name.ensures.same)
