use Rattle.std.proofs.Common.{subst}
use Rattle.calculus.proofs.ReadingLaws.{IsTermAt-unique}
use Rattle.formula_text.proofs.Closings.{no_term-at}
use Rattle.formula_text.proofs.Passing.{error-passed}
use Rattle.formula_text.proofs.RowsRead.{row-told}
use Rattle.formula_text.specs.Frames.{NoTerm}
use Rattle.formula_text.proofs.term_reader.read_term.Goals as goal

pub returns-in_err-items-clause-none : goal.returns-in_err-items-clause-none
returns-in_err-items-clause-none c = λ e.
    no_term-at c.args.symbols.now c.args.text.now c.args.from (subst (NoTerm c.args.symbols.now) c.rest_of-rest.ensures (c.in_err-items.ensures.none (error-passed c.from_residual.result c.in_err-items.field-0.0 _ c.from_residual.ensures.1 e)))

pub returns-in_err-items-clause-one : goal.returns-in_err-items-clause-one
returns-in_err-items-clause-one c = IsTermAt-unique c.args.symbols.now

pub returns-clause-ok : goal.returns-clause-ok
returns-clause-ok c =
    let h = c.in_ok-items.ensures.ok in
    row-told c.args.symbols.now c.args.text.now c.rest_of-rest.result.now c.args.from c.in_ok-items.end c.in_ok-items.items.items c.new-row.result c.rest_of-rest.ensures h (c.new-row.ensures h.term h.row)

pub returns-clause-one : goal.returns-clause-one
returns-clause-one c = IsTermAt-unique c.args.symbols.now
