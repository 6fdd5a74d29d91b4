use Rattle.std.proofs.Common.{refl}
use Rattle.tableau_text.proofs.TokenLaws.{common-begun, own-begun, no-own}
use Rattle.tableau_text.proofs.begun.begin_spare.Goals as goal

pub returns-in_default-clause-ok : goal.returns-in_default-clause-ok
returns-in_default-clause-ok c = common-begun c.args.symbols.now c.requires.fits c.args.number c.args.text.now (c.in_default.ensures.none refl)

pub returns-in-Some-after_byte-clause-ok : goal.returns-in-Some-after_byte-clause-ok
returns-in-Some-after_byte-clause-ok c = own-begun c.args.symbols.now c.requires.fits c.args.number c.args.text.now c.in-Some.label.now c.in-Some-after_byte.rest.now c.in-Some.ensures.some c.in-Some-after_byte.ensures.some

pub returns-in-None-clause-none : goal.returns-in-None-clause-none
returns-in-None-clause-none c = λ _. no-own c.args.symbols.now c.requires.fits c.args.number c.args.text.now c.in-Some.label.now c.in-Some.ensures.some (c.in-None.ensures.none refl)
