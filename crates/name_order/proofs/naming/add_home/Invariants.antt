use Rattle.std.proofs.Common.{◌≡◌, map, drop}
use Rattle.calculus.specs.Ground.{g_eigen, values_tree}
use Rattle.conversion_theory.specs.Numbering.{name_eq}
use Rattle.conversion_theory.specs.Turns.{mark_name, term_name}
use Rattle.formula_core.specs.GroundLists.{the_values}
use Rattle.name_order.specs.ByNumber.Inside.{home_marks}
use Rattle.tableau_core.specs.Numbered.SpotView.{the_mark_at}
use Rattle.name_order.specs.ByNumber.Naming.{IsNaming, the_names, the_turns}
use Rattle.name_order.specs.Keeping.{keep_all}
use Rattle.name_order.proofs.naming.add_home.Given as goal

abbrev pub invariant-loop-mark : goal.invariant-loop-mark
invariant-loop-mark l = record {
  good : IsNaming l.source l.naming;
  names : keep_all name_eq (the_names l.naming) (map (λ m. mark_name (the_mark_at l.source m)) (drop l.mark-index l.marks)) ≡ keep_all name_eq (the_names l.initial.naming) (home_marks l.problem (term_name (g_eigen l.fn.position.0 (values_tree (the_values l.source l.fn.values)))));
  turns : the_turns l.naming ≡ the_turns l.initial.naming;
}
