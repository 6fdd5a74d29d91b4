use Rattle.std.proofs.Common.{◌∙◌}
use Rattle.name_order.proofs.ByNumber.ReachedLaws.{turn-found}
use Rattle.name_order.proofs.keys.find.Goals as goal

pub returns : goal.returns
returns c = c.get_index_of.ensures.index ∙ turn-found c.args.table.now c.normal_values-read_for_its_invariant.ensures.apart c.args.turns.now.keys c.in_ok-turn.turn _ c.requires.normal c.in_ok-turn.ensures.normal c.in_ok-turn.ensures.turn
