use Rattle.std.proofs.Common.{◌≡◌, ◌++◌, map, drop, flat_map}
use Rattle.calculus.specs.FirstWrong.{line_bytes}
use Rattle.derivation_text.specs.NumbersView.{the_numbered_eigen}
use Rattle.derivation_text.specs.Writing.{eigen_line_at}
use Rattle.derivation_text.proofs.line_writer.write_eigens.Given as goal

abbrev pub invariant-loop-name : goal.invariant-loop-name
invariant-loop-name l = l.out.items ++ flat_map line_bytes (map (eigen_line_at l.version l.d.labels) (map the_numbered_eigen (drop l.name-index l.names))) ≡ l.fn.out.items ++ flat_map line_bytes (map (eigen_line_at l.version l.d.labels) (map the_numbered_eigen l.names))
