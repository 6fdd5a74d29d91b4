use Rattle.tableau_text.proofs.TokenLaws.{args-begun}
use Rattle.tableau_text.proofs.begun.begin_function.Goals as goal

pub returns-in-Some-clause-ok : goal.returns-in-Some-clause-ok
returns-in-Some-clause-ok c = args-begun c.args.symbols.now c.requires.fits c.args.name c.args.text.now c.in-Some.rest.now c.in-Some.ensures.some
