use Rattle.std.proofs.Common.{subst}
use Rattle.formula_core.specs.GroundLists.{IsLowerValue}
use Rattle.name_order.proofs.inside.see_value.Goals as goal

pub returns-in_ok-see_term-in-Term-clause-bound : goal.returns-in_ok-see_term-in-Term-clause-bound
returns-in_ok-see_term-in-Term-clause-bound c m lower le = c.in_ok-see_term-in-Term.ensures.bound m (subst (IsLowerValue c.args.table.now m) c.in-Term.is lower) le

pub returns-in_ok-see_label-in-Steps-clause-bound : goal.returns-in_ok-see_label-in-Steps-clause-bound
returns-in_ok-see_label-in-Steps-clause-bound c m lower le = c.in_ok-see_label-in-Steps.ensures.bound m (subst (IsLowerValue c.args.table.now m) c.in-Steps.is lower) le
