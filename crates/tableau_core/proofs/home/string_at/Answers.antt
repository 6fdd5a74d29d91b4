use Rattle.std.proofs.Common.{ap, arith, refl}
use Rattle.formula_core.specs.GroundLists.{the_marks, the_value}
use Rattle.tableau_core.proofs.HomeLaws.{string-taken, no-string}
use Rattle.tableau_core.proofs.home.string_at.Goals as goal

pub returns-in-Steps-clause-found : goal.returns-in-Steps-clause-found
returns-in-Steps-clause-found c l w = string-taken (the_value c.args.table.now) c.args.values.now c.args.place _ _ l w (the_marks c.args.table.now c.in-Steps.string) (omega arith) refl (ap (the_value c.args.table.now) c.in-Steps.is)

pub returns-in-Term-clause-found : goal.returns-in-Term-clause-found
returns-in-Term-clause-found c l w = no-string (the_value c.args.table.now) c.args.values.now c.args.place _ _ l w _ (omega arith) refl (ap (the_value c.args.table.now) c.in-Term.is)
