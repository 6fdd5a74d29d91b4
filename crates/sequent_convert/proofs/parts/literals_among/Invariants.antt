use Rattle.std.proofs.Common.{◌≡◌, ◌≤◌, take}
use Rattle.conversion_theory.specs.Leading.{literals_among}
use Rattle.sequent_convert.specs.ByNumber.RunView.{the_source}
use Rattle.sequent_convert.specs.State.{turns_at}
use Rattle.sequent_convert.proofs.parts.literals_among.Given as goal

abbrev pub invariant-loop-turn : goal.invariant-loop-turn
invariant-loop-turn l = (l.count ≡ literals_among l.source.problem.now (turns_at (the_source l.source) (take l.turn-index l.turns))) × (l.count ≤ l.turn-index)
