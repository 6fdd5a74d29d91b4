use Rattle.std.proofs.Common.{◌≡◌, ℕ, map, drop}
use Rattle.std.specs.List.{list_all}
use Rattle.tableau_core.specs.Walks.{capped}
use Rattle.tableau_text.specs.MovesView.{the_move}
use Rattle.tableau_cert.specs.Resolving.{is_move_within}
use Rattle.tableau_cert.proofs.resolving.are_all_within.Given as goal

abbrev pub invariant-loop-given_move : goal.invariant-loop-given_move
invariant-loop-given_move l = (n : ℕ) → l.steps ≡ capped n → list_all (is_move_within n) (map (the_move l.moves.table) (drop l.given_move-index l.moves.moves.items)) ≡ list_all (is_move_within n) (map (the_move l.moves.table) l.moves.moves.items)
