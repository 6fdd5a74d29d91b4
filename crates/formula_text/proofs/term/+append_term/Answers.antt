use Rattle.std.proofs.Common.{arith}
use Rattle.formula_core.specs.TermFalls.{size-item}
use Rattle.formula_text.proofs.Knowing.{item-known}
use Rattle.formula_text.proofs.term.+append_term.Goals as goal

pub append_args-append_term-requires : goal.append_args-append_term-requires
append_args-append_term-requires t c = (
  grind (arith, size-item),
  item-known c.args.symbols.now c.items-item-items.result.now c.args.args.now c.loop-item.item-index c.item-item.result c.item-item.result c.items-item-items.ensures (omega arith) c.item-item.is c.requires,
)
