use Rattle.tableau_cert.proofs.NumberLaws.{steps-numbers, term-numbers}
use Rattle.tableau_cert.proofs.numbers.value_fits.Goals as goal

pub returns-in-Term : goal.returns-in-Term
returns-in-Term c = λ ls n known low. term-numbers ls n known c.args.value c.in-Term.term c.in-Term.is (c.term_fits.ensures ls n known) low

pub returns-in-Steps : goal.returns-in-Steps
returns-in-Steps c = λ ls n known low. steps-numbers ls n known c.args.value _ c.in-Steps.is low
