use Rattle.std.proofs.Common.{ap, ◌∙◌}
use Rattle.calculus.specs.Ground.{g_new_mark, values_tree}
use Rattle.conversion_theory.specs.Numbering.{name_eq}
use Rattle.conversion_theory.specs.Turns.{mark_name}
use Rattle.formula_core.specs.GroundLists.{the_values}
use Rattle.name_order.specs.ByNumber.Naming.{the_names}
use Rattle.name_order.specs.Keeping.{keep}
use Rattle.name_order.proofs.naming.add_made.Goals as goal

pub returns-clause-good : goal.returns-clause-good
returns-clause-good c = record { grown = c.in_ok-list.ensures.kept.good.grown; names = c.in_ok-keep_name.ensures.normal; turns = c.in_ok-list.ensures.kept.good.turns }

pub returns-clause-names : goal.returns-clause-names
returns-clause-names c =
    let old = c.args.naming.now in
    c.in_ok-keep_name.ensures.kept
    ∙ ap (λ ks. keep name_eq ks (mark_name (g_new_mark c.args.position.0 (values_tree (the_values c.list_of.new.naming.table c.in_ok-list.list))))) c.in_ok-list.ensures.kept.names
    ∙ ap (λ vs. keep name_eq (the_names old) (mark_name (g_new_mark c.args.position.0 (values_tree vs)))) c.in_ok-list.ensures.list

pub returns-clause-turns : goal.returns-clause-turns
returns-clause-turns c = c.in_ok-list.ensures.kept.turns
