use Rattle.std.proofs.Common.{◌≡◌, drop, map}
use Rattle.std.specs.List.{list_all}
use Rattle.calculus.specs.Problems.{symbol_fits}
use Rattle.formula_core.specs.SymbolView.{the_symbol}
use Rattle.logic_rules.proofs.fitting.symbols_fit.Given as goal

abbrev pub invariant-loop-s : goal.invariant-loop-s
invariant-loop-s l = list_all symbol_fits (map the_symbol (drop l.s-index l.symbols)) ≡ list_all symbol_fits (map the_symbol l.symbols)
