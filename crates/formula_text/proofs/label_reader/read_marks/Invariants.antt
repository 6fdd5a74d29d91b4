use Rattle.std.proofs.Common.{◌≡◌, ◌≤◌, ◌-◌, ◌++◌, drop, length, IsTrue}
use Rattle.calculus.specs.DerivationText.{label_is_written}
use Rattle.formula_text.specs.Marks.{front_text}
use Rattle.formula_text.proofs.label_reader.read_marks.Given as goal

abbrev pub invariant-loop-mark : goal.invariant-loop-mark
invariant-loop-mark l =
    (drop l.fn.from l.text ≡ front_text l.label ++ drop l.place l.text) × IsTrue (label_is_written l.label) × (l.place ≤ length l.text)

abbrev pub decreases-loop-mark : goal.decreases-loop-mark
decreases-loop-mark l = length l.text - l.place
