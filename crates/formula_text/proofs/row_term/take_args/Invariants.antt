use Rattle.std.proofs.Common.{take, drop}
use Rattle.formula_text.specs.Standing.{standing}
use Rattle.formula_text.proofs.StandingLaws.{IsTaking}
use Rattle.formula_text.proofs.row_term.take_args.Given as goal

abbrev pub invariant-loop-left : goal.invariant-loop-left
invariant-loop-left l = IsTaking l.args l.left l.stack.items (take l.count (standing l.initial.stack.items)) (drop l.count (standing l.initial.stack.items))

abbrev pub decreases-loop-left : goal.decreases-loop-left
decreases-loop-left l = l.left
