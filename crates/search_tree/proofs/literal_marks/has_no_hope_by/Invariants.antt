use Rattle.std.proofs.Common.{◌≡◌, ◌∷◌}
use Rattle.search_theory.specs.Ahead.{MarksPath}
use Rattle.search_theory.specs.States.{CellGoal}
use Rattle.search_tree.proofs.AheadLaws.{AreHopelessTo}
use Rattle.search_tree.proofs.literal_marks.has_no_hope_by.Given as goal

abbrev pub invariant-loop-i : goal.invariant-loop-i
invariant-loop-i l = (x : CellGoal) → x.literal.symbol ≡ l.fn.symbol.0 → x.literal.sign ≡ l.fn.sign → MarksPath l.marks (x.literal ∷ x.path) → AreHopelessTo l.matrix x l.i
