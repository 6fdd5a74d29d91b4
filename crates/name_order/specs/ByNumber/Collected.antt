-- The turns of each instance, by the lists of a table.
use Rattle.std.specs.Prelude.{List, map}
use Rattle.calculus.specs.Instances as tree
use Rattle.formula_core.specs.GroundLists.{GroundList}
use Rattle.name_order.specs.ByNumber.ReachedView.{the_all}
use Rattle.name_order.specs.declared.collect.ReachedList.{ReachedList}

abbrev pub the_list : List GroundList → ReachedList → List tree.Turn
the_list ls r = the_all ls r.items.items

abbrev pub the_lists : List GroundList → List ReachedList → List (List tree.Turn)
the_lists ls rs = map (the_list ls) rs
