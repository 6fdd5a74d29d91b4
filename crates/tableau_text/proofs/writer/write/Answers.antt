use Rattle.std.proofs.Common.{map, subst, sym, IsTrue}
use Rattle.std.specs.List.{list_all}
use Rattle.calculus.specs.TableauText.{chosen_is_written, move_is_written}
use Rattle.tableau_text.proofs.MoveFeeds.{written-moves}
use Rattle.tableau_text.proofs.MovesText.{text-by_steps}
use Rattle.tableau_text.specs.MovesView.{the_chosen, the_move, the_moves}
use Rattle.tableau_text.proofs.writer.write.Goals as goal

pub write_chosen-requires : goal.write_chosen-requires
write_chosen-requires c = subst (λ S. IsTrue (chosen_is_written S (the_chosen c.args.moves.now.table c.args.moves.now.start))) (sym c.symbols-symbols.ensures.symbols) (written-moves c.args.problem.now (the_moves c.args.moves.now) c.requires).start

pub write_moves-requires : goal.write_moves-requires
write_moves-requires c =
    subst (λ S. IsTrue (list_all (move_is_written S) (map (the_move c.args.moves.now.table) c.as_slice.result.now))) (sym c.symbols-symbols.ensures.symbols)
    (subst (λ ms. IsTrue (list_all (move_is_written c.args.problem.now.symbols) (map (the_move c.args.moves.now.table) ms))) (sym c.as_slice.ensures.value) (written-moves c.args.problem.now (the_moves c.args.moves.now) c.requires).moves)

pub returns : goal.returns
returns c =
    text-by_steps c.args.problem.now (the_moves c.args.moves.now) _ _ _ _ _ _ c.requires
    (rw c.new-out.ensures.items at c.in_ok-write_head.ensures.ok) c.in_ok-write_bytes.ensures.ok (rw c.symbols-symbols.ensures.symbols at c.in_ok-write_chosen.ensures) c.in_ok-write_bytes-2.ensures.ok (rw (c.symbols-symbols.ensures.symbols, c.as_slice.ensures.value) at c.in_ok-write_moves.ensures) c.in_ok-write_bytes-3.ensures.ok
