use Rattle.std.proofs.Common.{append-nil}
use Rattle.formula_text.proofs.Equations.{equation-short, equation-long}
use Rattle.formula_text.proofs.formula.append_equation.Goals as goal

pub returns-in_default-clause-ok : goal.returns-in_default-clause-ok
returns-in_default-clause-ok c = rw (equation-short c.args.symbols.now c.args.depth c.items.result.now c.args.args.now c.items.ensures c.in_default.len_below, append-nil)

pub returns-in_default-2-clause-ok : goal.returns-in_default-2-clause-ok
returns-in_default-2-clause-ok c = rw (equation-long c.args.symbols.now c.args.depth c.items.result.now c.args.args.now c.items.ensures c.in_default.len_at_least, append-nil)
