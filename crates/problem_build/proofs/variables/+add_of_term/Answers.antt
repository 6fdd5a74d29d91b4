use Rattle.std.proofs.Common.{◌∙◌}
use Rattle.problem_build.proofs.AddingLaws.{terms-step}
use Rattle.problem_build.proofs.variables.+add_of_term.Goals as goal

pub add_of_terms-loop-term-preserved : goal.add_of_terms-loop-term-preserved
add_of_terms-loop-term-preserved t c =
    terms-step c.items-term-items.result.now c.loop-term.term-index c.term-item.result c.loop-term.found c.add_of_term.new.found c.args.bound.now
    c.loop-term-test.true c.term-item.is c.in_ok-add_of_term.ensures
    ∙ c.loop-term.invariant
