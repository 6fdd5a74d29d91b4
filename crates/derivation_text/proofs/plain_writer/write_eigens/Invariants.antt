use Rattle.std.proofs.Common.{◌≡◌, ◌++◌, map, drop}
use Rattle.std.specs.List.{flat_map}
use Rattle.calculus.specs.DerivationText.{eigen_line}
use Rattle.calculus.specs.FirstWrong.{line_bytes}
use Rattle.sequent_calc.specs.NamesView.{the_eigen}
use Rattle.derivation_text.proofs.plain_writer.write_eigens.Given as goal

abbrev pub invariant-loop-item : goal.invariant-loop-item
invariant-loop-item l = l.out.items ++ flat_map line_bytes (map eigen_line (map the_eigen (drop l.item-index l.item-items))) ≡ l.fn.out.items ++ flat_map line_bytes (map eigen_line l.eigens)
