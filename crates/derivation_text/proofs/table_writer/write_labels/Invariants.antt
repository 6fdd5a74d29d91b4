use Rattle.std.proofs.Common.{◌≡◌, ◌++◌, suc, drop, flat_map}
use Rattle.calculus.specs.FirstWrong.{line_bytes}
use Rattle.calculus.specs.Versions.{label_line, lines_from}
use Rattle.derivation_text.proofs.table_writer.write_labels.Given as goal

abbrev pub invariant-loop-i : goal.invariant-loop-i
invariant-loop-i l = l.out.items ++ flat_map line_bytes (lines_from label_line (suc l.i) (drop l.i l.d.labels)) ≡ l.fn.out.items ++ flat_map line_bytes (lines_from label_line 1 l.d.labels)
