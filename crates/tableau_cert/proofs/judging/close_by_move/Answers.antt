use Rattle.std.proofs.Common.{◌∷◌}
use Rattle.tableau_text.specs.MovesView.{the_move}
use Rattle.tableau_cert.specs.Resolving.{closer_of, the_closer}
use Rattle.tableau_cert.proofs.NormalLaws.{goals-grown, taken-grown}
use Rattle.tableau_cert.proofs.judging.close_by_move.Goals as goal

pub close_next-requires-clause-normal : goal.close_next-requires-clause-normal
close_next-requires-clause-normal c = goals-grown c.args.table.now c.closer_of.new.table c.in_ok-closer.ensures.grown c.args.path.now.items (c.args.goal ∷ c.args.open_goals.now.items) c.requires.normal

pub returns : goal.returns
returns c = let k = c.in_ok-closer.ensures in let after = c.closer_of.new.table in record {
  takes = taken-grown c.args.table.now after k.grown c.args.moves.now.limit c.args.path.now.items c.close_next.new.path.items c.args.open_goals.now.items c.close_next.new.open_goals.items c.args.goal (the_closer after c.in_ok-closer.closer) (closer_of c.args.problem.now (the_move c.args.moves.now.table c.args.given_move.now)) c.in_ok-fault.fault c.requires.normal k.closer c.in_ok-fault.ensures;
  steps = k.steps;
  grown = k.grown;
}
