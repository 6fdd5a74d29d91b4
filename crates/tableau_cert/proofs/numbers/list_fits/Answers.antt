use Rattle.tableau_cert.proofs.NumberLaws.{list-numbers}
use Rattle.tableau_cert.proofs.numbers.list_fits.Goals as goal

pub returns : goal.returns
returns c = λ known.
    list-numbers c.args.table.now c.args.number _ _ _ c.terms.ensures.list c.marks.ensures.list c.values.ensures.list
    (c.terms_fit.ensures c.args.table.now c.args.number known c.terms.ensures.lower) (c.marks_fit.ensures c.args.table.now c.args.number known c.marks.ensures.lower) (c.values_fit.ensures c.args.table.now c.args.number known c.values.ensures.lower)
