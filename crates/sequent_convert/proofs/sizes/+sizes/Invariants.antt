-- What was put and what is left are the sizes of all.
use Rattle.std.proofs.Common.{◌≡◌, ◌++◌, map, drop}
use Rattle.tableau_core.specs.Numbered.Closings.{closing_size, closing_list_size}
use Rattle.tableau_core.specs.Numbered.ClosingView.{the_closing}
use Rattle.sequent_convert.specs.ByNumber.AheadView.{sizes_in_all}
use Rattle.sequent_convert.proofs.sizes.+sizes.Given as goal

abbrev pub invariant-put_all-loop-closing : goal.invariant-put_all-loop-closing
invariant-put_all-loop-closing l = l.sizes.items ++ sizes_in_all (map the_closing (drop l.closing-index l.closing-items)) ≡ l.initial.sizes.items ++ sizes_in_all l.closings

abbrev pub decreases-put_closing : goal.decreases-put_closing
decreases-put_closing l = closing_size (the_closing l.closing.now)

abbrev pub decreases-put_all : goal.decreases-put_all
decreases-put_all l = closing_list_size l.closings.now
