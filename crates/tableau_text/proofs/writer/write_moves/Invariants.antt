use Rattle.std.proofs.Common.{◌≡◌, ◌++◌, map, drop, flat_map}
use Rattle.calculus.specs.FirstWrong.{line_bytes}
use Rattle.calculus.specs.TableauText.{move_line}
use Rattle.tableau_text.specs.MovesView.{the_move}
use Rattle.tableau_text.proofs.writer.write_moves.Given as goal

abbrev pub invariant-loop-step : goal.invariant-loop-step
invariant-loop-step l =
    l.out.items ++ flat_map line_bytes (map (move_line l.symbols) (map (the_move l.table) (drop l.step-index l.moves))) ≡ l.fn.out.items ++ flat_map line_bytes (map (move_line l.symbols) (map (the_move l.table) l.moves))
