-- What was collected and what is left are the turns of all.
use Rattle.std.proofs.Common.{◌≡◌, ◌++◌, map, drop}
use Rattle.calculus.specs.Tableaux.{instances_of_all}
use Rattle.calculus.specs.Lists.{closings_tree}
use Rattle.name_order.specs.ByNumber.Collected.{the_lists}
use Rattle.name_order.specs.Walks.{turns_by}
use Rattle.tableau_core.specs.Numbered.Closings.{closing_size, closing_list_size}
use Rattle.tableau_core.specs.Numbered.ClosingView.{the_closing, closing_in}
use Rattle.name_order.proofs.collect.+collect.Given as goal

abbrev pub invariant-collect_all-loop-closing : goal.invariant-collect_all-loop-closing
invariant-collect_all-loop-closing l = the_lists l.table l.lists.items ++ map (turns_by l.problem) (instances_of_all (closings_tree (map (closing_in l.table) (map the_closing (drop l.closing-index l.closing-items))))) ≡ the_lists l.table l.initial.lists.items ++ map (turns_by l.problem) (instances_of_all (closings_tree (map (closing_in l.table) l.closings)))

abbrev pub decreases-collect_below : goal.decreases-collect_below
decreases-collect_below l = closing_size (the_closing l.closing.now)

abbrev pub decreases-collect_all : goal.decreases-collect_all
decreases-collect_all l = closing_list_size l.closings.now
