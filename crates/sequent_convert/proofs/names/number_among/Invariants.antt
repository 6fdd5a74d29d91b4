use Rattle.std.proofs.Common.{map}
use Rattle.calculus.specs.Ground.{g_new_mark, values_tree}
use Rattle.conversion_theory.specs.Turns.{mark_name}
use Rattle.formula_core.specs.GroundLists.{the_value}
use Rattle.sequent_convert.proofs.ByNumber.MadeNames.{NoneOf}
use Rattle.sequent_convert.proofs.names.number_among.Given as goal

abbrev pub invariant-loop-name : goal.invariant-loop-name
invariant-loop-name l = NoneOf l.named.lists l.name-items l.name-index (mark_name (g_new_mark l.position.0 (values_tree (map (the_value l.named.lists) l.taken))))
