use Rattle.std.proofs.Common.{refl}
use Rattle.tableau_text.proofs.TokenLaws.{new-begun, no-new}
use Rattle.tableau_text.proofs.begun.begin_new.Goals as goal

pub returns-in-Some-clause-ok : goal.returns-in-Some-clause-ok
returns-in-Some-clause-ok c = new-begun c.args.symbols.now c.requires.fits c.args.number c.args.text.now c.in-Some.rest.now c.in-Some.ensures.some

pub returns-in-None-clause-none : goal.returns-in-None-clause-none
returns-in-None-clause-none c = λ _. no-new c.args.symbols.now c.requires.fits c.args.number c.args.text.now (c.in-None.ensures.none refl)
