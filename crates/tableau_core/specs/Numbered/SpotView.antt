-- The characters and terms of the calculus that those of a spot stand for, by the lists of a table.
use Rattle.std.specs.Prelude.{List, [], map, if◌then◌else◌}
use Rattle.std.specs.Borrow.{Bor}
use Rattle.calculus.specs.Ground as tree
use Rattle.calculus.specs.declared.setting.Logic.{Logic}
use Rattle.calculus.specs.Labels.{keeps_prefix}
use Rattle.formula_core.specs.GroundLists.{GroundList, the_g_term, the_mark, the_value}
use Rattle.formula_core.specs.declared.ground.Value.{Value}
use Rattle.tableau_core.specs.declared.spot.MarkAt.{MarkAt}
use Rattle.tableau_core.specs.declared.spot.MarkAt.TheVariants as mark
use Rattle.tableau_core.specs.declared.spot.Bound.{Bound}
use Rattle.tableau_core.specs.declared.spot.Bound.TheVariants as bound

abbrev pub the_mark_at : List GroundList → MarkAt → tree.GroundMark
the_mark_at ls (mark.Given m) = the_mark ls m
the_mark_at ls (mark.Made p vs) = tree.g_new_mark p.0 (tree.values_tree (map (the_value ls) vs.now))

abbrev pub the_bound : List GroundList → Bound → tree.GroundTerm
the_bound ls (bound.Given t) = the_g_term ls t
the_bound ls (bound.Made p vs) = tree.g_eigen p.0 (tree.values_tree (map (the_value ls) vs.now))

abbrev pub values_left : List GroundList → Bor (List Value) → List tree.Value
values_left ls vs = map (the_value ls) vs.now

-- the characters from which a step goes on
abbrev pub start_marks : Logic → List MarkAt → List MarkAt
start_marks l w = if keeps_prefix l then w else []
