use Rattle.std.proofs.Common.{◌≡◌, map, take, IsTrue}
use Rattle.std.specs.List.{list_all}
use Rattle.calculus.specs.StructureText.{fits_table}
use Rattle.formula_core.specs.SymbolView.{the_symbol}
use Rattle.finite_model.specs.Slots.{table_sizes}
use Rattle.finite_model.proofs.head.table_sizes.Given as goal

abbrev pub invariant-loop-symbol : goal.invariant-loop-symbol
invariant-loop-symbol l = record {
  sizes : l.sizes.items ≡ table_sizes l.elements (map the_symbol (take l.symbol-index l.symbols));
  fits : IsTrue (list_all (fits_table l.elements) (map the_symbol (take l.symbol-index l.symbols)));
}
