use Rattle.std.proofs.Common.{◌++◌, ◌∷◌, ◌∙◌}
use Rattle.godel_transfer.specs.BranchView.{branches_of}
use Rattle.godel_transfer.specs.Sketch.{names_sketched_from, sketched_from}
use Rattle.godel_transfer.proofs.transferring.take_numbered.Goals as goal

pub returns-clause-steps : goal.returns-clause-steps
returns-clause-steps c = λ rest.
    c.in_ok-take_next.ensures.steps rest ∙ (λ j. c.args.out.now.steps ++ sketched_from (branches_of c.args.branches.now) c.args.number (c.in_ok-written.ensures j ∷ rest))

pub returns-clause-names : goal.returns-clause-names
returns-clause-names c = λ rest.
    c.in_ok-take_next.ensures.names rest ∙ (λ j. c.args.out.now.names.eigens ++ names_sketched_from (branches_of c.args.branches.now) c.args.number (c.in_ok-written.ensures j ∷ rest))
