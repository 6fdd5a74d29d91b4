use Rattle.std.proofs.Common.{◌≡◌, ◌+◌, ◌<◌, [], map, drop, length, reverse}
use Rattle.calculus.specs.TableauText.{below, bare_instances, strings_are_short}
use Rattle.calculus.specs.Tableaux.{total_steps}
use Rattle.formula_core.specs.GroundLists.{IsGrown}
use Rattle.tableau_core.specs.Walks.{capped}
use Rattle.tableau_core.specs.Numbered.LiteralView.{the_literal}
use Rattle.tableau_text.specs.MovesView.{the_move, the_moves}
use Rattle.tableau_cert.specs.Judging.{AreNested, AreNormalGoals, closers_verdict, last_verdict, the_open}
use Rattle.tableau_cert.specs.Resolving.{closer_of, moves_steps}
use Rattle.tableau_cert.proofs.judging.verdict_from.Given as goal

-- The rest of the moves is judged at the goals that are open, and the steps are those so far.

abbrev pub invariant-loop-i : goal.invariant-loop-i
invariant-loop-i l = record {
  grown : IsGrown l.initial.table l.table;
  same : closers_verdict l.moves.limit (last_verdict (strings_are_short l.problem (bare_instances (the_moves l.moves)))) (map (the_open l.table l.path.items) (reverse l.open_goals.items)) (map (λ m. closer_of l.problem (the_move l.moves.table m)) (drop l.i l.given_moves)) (l.i + 6) ≡ closers_verdict l.moves.limit (last_verdict (strings_are_short l.problem (bare_instances (the_moves l.moves)))) (below [] (map (the_literal l.initial.table) l.goals)) (map (closer_of l.problem) (the_moves l.moves).moves) 6;
  nested : AreNested (length l.path.items) (reverse l.open_goals.items);
  normal : AreNormalGoals l.table l.path.items l.open_goals.items;
  steps : capped (l.steps + moves_steps l.problem (map (the_move l.moves.table) (drop l.i l.given_moves))) ≡ capped (total_steps l.problem (bare_instances (the_moves l.moves)));
  whole : l.steps < 18446744073709551616;
}
