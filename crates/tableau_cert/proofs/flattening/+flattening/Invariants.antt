use Rattle.std.proofs.Common.{◌≡◌, ◌++◌, List, map, take}
use Rattle.calculus.specs.Lists.{closings_tree}
use Rattle.calculus.specs.TableauText.{moves_of_all}
use Rattle.formula_core.specs.GroundLists.{GroundList}
use Rattle.tableau_core.specs.Numbered.Closings.{closing_size, closing_list_size}
use Rattle.tableau_core.specs.Numbered.ClosingView.{closing_in, the_closing}
use Rattle.tableau_text.specs.MovesView.{the_move}
use Rattle.tableau_cert.proofs.flattening.+flattening.Given as goal

abbrev pub invariant-put_all_moves-loop-i : goal.invariant-put_all_moves-loop-i
invariant-put_all_moves-loop-i l = (ls : List GroundList) → map (the_move ls) l.moves.items ≡ map (the_move ls) l.initial.moves.items ++ moves_of_all (closings_tree (map (λ y. closing_in ls (the_closing y)) (take l.i l.items)))

abbrev pub decreases-put_moves : goal.decreases-put_moves
decreases-put_moves l = closing_size (the_closing l.closing.now)

abbrev pub decreases-put_all_moves : goal.decreases-put_all_moves
decreases-put_all_moves l = closing_list_size l.closings.now
