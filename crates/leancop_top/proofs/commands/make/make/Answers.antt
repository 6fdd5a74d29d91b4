use Rattle.std.proofs.Common.{subst}
use Rattle.command_line.specs.CommandView.{the_bounds, the_generated_problem}
use Rattle.leancop_top.proofs.Ends.{make-counted, make-tells}
use Rattle.leancop_top.proofs.commands.make.make.Goals as goal

pub invariant_of-result : goal.invariant_of-result
invariant_of-result c = record {
  tells = make-tells (the_generated_problem c.args.generated) (the_bounds c.args.bounds) c.in_ok-status.status _ c.in_ok-status.ensures;
}

pub returns-clause-counted : goal.returns-clause-counted
returns-clause-counted c = λ m n f g after.
    make-counted (the_generated_problem c.args.generated) (the_bounds c.args.bounds) m n f g after c.in_ok-status.status _ c.in_ok-status.ensures
