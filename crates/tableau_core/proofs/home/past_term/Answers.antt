use Rattle.std.proofs.Common.{ap, arith, refl}
use Rattle.formula_core.specs.GroundLists.{the_value}
use Rattle.tableau_core.proofs.HomeLaws.{term-taken, no-term}
use Rattle.tableau_core.proofs.home.past_term.Goals as goal

pub returns-in-Term-clause-found : goal.returns-in-Term-clause-found
returns-in-Term-clause-found c w = term-taken (the_value c.args.table.now) c.args.values.now c.args.place _ _ w _ (omega arith) refl (ap (the_value c.args.table.now) c.in-Term.is)

pub returns-in-Steps-clause-found : goal.returns-in-Steps-clause-found
returns-in-Steps-clause-found c w = no-term (the_value c.args.table.now) c.args.values.now c.args.place _ _ w _ (omega arith) refl (ap (the_value c.args.table.now) c.in-Steps.is)
