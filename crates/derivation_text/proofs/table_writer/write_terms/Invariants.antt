use Rattle.std.proofs.Common.{◌≡◌, ◌++◌, suc, drop, flat_map}
use Rattle.calculus.specs.FirstWrong.{line_bytes}
use Rattle.calculus.specs.Versions.{lines_from, term_line}
use Rattle.derivation_text.proofs.table_writer.write_terms.Given as goal

abbrev pub invariant-loop-i : goal.invariant-loop-i
invariant-loop-i l = l.out.items ++ flat_map line_bytes (lines_from (term_line l.problem.symbols) (suc l.i) (drop l.i l.d.terms)) ≡ l.fn.out.items ++ flat_map line_bytes (lines_from (term_line l.problem.symbols) 1 l.d.terms)
