use Rattle.formula_text.proofs.RowsRead.{error-again, none-begun, opened}
use Rattle.formula_text.proofs.term_reader.read_on.Goals as goal

pub returns-in_ok-open_term-in-Ok-Open-clause-ok : goal.returns-in_ok-open_term-in-Ok-Open-clause-ok
returns-in_ok-open_term-in-Ok-Open-clause-ok c =
    opened c.args.symbols.now c.args.text.now c.args.place c.in-Ok-Open.end c.args.stack.now.items c.open_term.new.stack.items c.args.items.now.items c.open_term.new.items.items
    c.requires.begun (rw c.in-Ok-Open.field-0-is at c.in-Ok-Open.ensures.ok) c.in_ok-open_term-in-Ok-Open.ensures

pub returns-in-Err-clause-none : goal.returns-in-Err-clause-none
returns-in-Err-clause-none c = λ e.
    none-begun c.args.symbols.now c.requires.distinct c.args.text.now c.args.place c.args.stack.now.items c.args.items.now.items c.requires.begun (c.in-Err.ensures.none (error-again _ _ e))
