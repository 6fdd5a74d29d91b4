use Rattle.sequent_convert.proofs.derivation_by.Goals as goal

pub steps_by-requires-clause-basis : goal.steps_by-requires-clause-basis
steps_by-requires-clause-basis c = c.requires.basis

pub returns-clause-converted : goal.returns-clause-converted
returns-clause-converted c = c.in_ok-steps.ensures.converted
