use Rattle.std.proofs.Common.{◌≡◌, ◌+◌, drop}
use Rattle.conversion_theory.specs.Leading.{turns_before}
use Rattle.sequent_convert.specs.ByNumber.RunView.{the_source}
use Rattle.sequent_convert.specs.State.{turns_at}
use Rattle.sequent_convert.proofs.parts.turns_before.Given as goal

abbrev pub invariant-loop-i : goal.invariant-loop-i
invariant-loop-i l = turns_before l.position (turns_at (the_source l.source) l.turns) ≡ l.i + turns_before l.position (turns_at (the_source l.source) (drop l.i l.turns))
