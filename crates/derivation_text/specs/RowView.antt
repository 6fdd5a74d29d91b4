-- The steps of the calculus that those with terms in rows stand for.
use Rattle.calculus.specs.Derivations as derivation
use Rattle.sequent_calc.specs.StepView.{the_modal, the_row_arg}
use Rattle.derivation_text.specs.declared.row_step.RowStep as row_step
use Rattle.derivation_text.specs.declared.row_step.RowStep.TheVariants as step

abbrev pub the_row_step : row_step.RowStep → derivation.Step
the_row_step (step.Use n m t) = derivation.apply_to n (the_modal m) (the_row_arg t)
the_row_step (step.Axiom n k) = derivation.close n k
