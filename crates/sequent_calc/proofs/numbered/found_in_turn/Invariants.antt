use Rattle.std.proofs.Common.{◌≡◌, ◌==◌, drop}
use Rattle.std.specs.Prelude.{find}
use Rattle.sequent_calc.proofs.numbered.found_in_turn.Given as goal

abbrev pub invariant-loop-item : goal.invariant-loop-item
invariant-loop-item g l = find (λ x. x.0 == l.number) (drop l.item-index l.fn.items) ≡ find (λ x. x.0 == l.number) l.fn.items
