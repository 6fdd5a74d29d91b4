use Rattle.std.proofs.Common.{◌≡◌, take}
use Rattle.name_order.proofs.awaited.numbers.Given as goal

abbrev pub invariant-loop-place : goal.invariant-loop-place
invariant-loop-place l = l.all ≡ take l.place-index l.places
