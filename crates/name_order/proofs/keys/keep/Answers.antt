use Rattle.name_order.proofs.ByNumber.ReachedLaws.{turn-kept, turn-normal}
use Rattle.name_order.proofs.keys.keep.Goals as goal

pub returns-clause-normal : goal.returns-clause-normal
returns-clause-normal c = turn-normal c.args.table.now c.normal_values-read_for_its_invariant.ensures.apart c.args.turns.now.keys c.insert.new.self.keys c.in_ok-turn.turn c.requires.normal c.in_ok-turn.ensures.normal c.in_ok-insert.ensures.keys

pub returns-clause-kept : goal.returns-clause-kept
returns-clause-kept c = turn-kept c.args.table.now c.normal_values-read_for_its_invariant.ensures.apart c.args.turns.now.keys c.insert.new.self.keys c.in_ok-turn.turn _ c.requires.normal c.in_ok-turn.ensures.normal c.in_ok-turn.ensures.turn c.in_ok-insert.ensures.keys
