use Rattle.std.proofs.Common.{◌++◌, ◌∙◌, ap}
use Rattle.problem_build.specs.declared.axioms.Sort.TheVariants.{Functions, Predicates}
use Rattle.problem_build.specs.EqualityAxioms.{for_each}
use Rattle.problem_build.specs.Measuring.{congruence_of}
use Rattle.problem_build.proofs.axioms.equality_axioms.Goals as goal

pub returns : goal.returns
returns c =
    c.in_ok-push_congruences-2.ensures
    ∙ ap (λ fs. fs ++ for_each (congruence_of Predicates c.args.symbols.now) 0 c.args.symbols.now)
    (c.in_ok-push_congruences.ensures ∙ ap (λ fs. fs ++ for_each (congruence_of Functions c.args.symbols.now) 0 c.args.symbols.now) c.in_ok-axioms.ensures)
