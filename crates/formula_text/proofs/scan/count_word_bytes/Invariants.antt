use Rattle.std.proofs.Common.{IsTrue, take}
use Rattle.std.specs.List.{list_all}
use Rattle.calculus.specs.Text.{is_word_byte}
use Rattle.formula_text.proofs.scan.count_word_bytes.Given as goal

abbrev pub invariant-loop-i : goal.invariant-loop-i
invariant-loop-i l = IsTrue (list_all is_word_byte (take (l.i) l.text))
