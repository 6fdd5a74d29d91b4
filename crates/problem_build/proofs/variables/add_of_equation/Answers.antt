use Rattle.std.proofs.Common.{◌∙◌}
use Rattle.tptp_reader.specs.TermView.{the_source_term}
use Rattle.problem_build.specs.Expansion.{variables_in}
use Rattle.problem_build.proofs.AddingLaws.{occurs-more}
use Rattle.problem_build.proofs.variables.add_of_equation.Goals as goal

pub returns : goal.returns
returns c =
    c.in_ok-add_of_term-2.ensures
    ∙ occurs-more c.args.found.now c.add_of_term.new.found c.args.bound.now (variables_in (the_source_term c.args.left.now)) (variables_in (the_source_term c.args.right.now)) c.in_ok-add_of_term.ensures
