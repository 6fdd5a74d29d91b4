use Rattle.std.proofs.Common.{◌-◌, length}
use Rattle.finite_model.proofs.NumberLaws.{AreNumbers}
use Rattle.finite_model.proofs.slot.read_numbers.Given as goal

abbrev pub invariant-loop-place : goal.invariant-loop-place
invariant-loop-place l = AreNumbers l.text l.most l.numbers.items l.place

abbrev pub decreases-loop-place : goal.decreases-loop-place
decreases-loop-place l = length l.text - l.place
