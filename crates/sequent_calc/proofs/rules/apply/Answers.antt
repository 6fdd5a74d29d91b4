use Rattle.std.proofs.Common.{map}
use Rattle.sequent_calc.specs.DerivationView.{the_names}
use Rattle.sequent_calc.specs.EntryView.{the_entry}
use Rattle.sequent_calc.specs.StepView.{the_step}
use Rattle.sequent_calc.proofs.Freshness.{fresh-at}
use Rattle.sequent_calc.proofs.rules.apply.Goals as goal

pub returns-in_ok-joined-in-Extend-clause-fresh : goal.returns-in_ok-joined-in-Extend-clause-fresh
returns-in_ok-joined-in-Extend-clause-fresh c = fresh-at c.args.problem.now (the_names c.args.names.now) c.args.s.now (map the_entry c.items-entries.result.now) (the_step c.args.step.now) _ c.items-entries.ensures c.in_ok-addition_of.ensures.added

pub returns-in_ok-second-in-Fork-clause-fresh : goal.returns-in_ok-second-in-Fork-clause-fresh
returns-in_ok-second-in-Fork-clause-fresh c = fresh-at c.args.problem.now (the_names c.args.names.now) c.args.s.now (map the_entry c.items-entries.result.now) (the_step c.args.step.now) _ c.items-entries.ensures c.in_ok-addition_of.ensures.added
