use Rattle.std.proofs.Common.{◌≡◌, map, take}
use Rattle.formula_core.specs.SymbolView.{the_symbol}
use Rattle.godel_transfer.proofs.translation.copy_symbols.Given as goal

abbrev pub invariant-loop-s : goal.invariant-loop-s
invariant-loop-s l = l.copied ≡ map the_symbol (take l.s-index l.s-items)
