-- The step of the calculus that a step of the program stands for.
use Rattle.calculus.specs.Derivations as derivation
use Rattle.sequent_calc.specs.declared.step.ModalArg as modal_arg
use Rattle.sequent_calc.specs.declared.step.ModalArg.TheVariants as modal
use Rattle.sequent_calc.specs.declared.step.TermArg as term_arg
use Rattle.sequent_calc.specs.declared.step.TermArg.TheVariants as term
use Rattle.sequent_calc.specs.declared.step.RowArg as row_arg
use Rattle.sequent_calc.specs.declared.step.RowArg.TheVariants as row
use Rattle.sequent_calc.specs.declared.step.Step as step_type
use Rattle.sequent_calc.specs.declared.step.Step.TheVariants as step
use Rattle.term_table.specs.SharedTerm.{the_shared_term}

abbrev pub the_modal : modal_arg.ModalArg → derivation.ModalArg
the_modal modal.None = derivation.no_modal
the_modal (modal.To w) = derivation.to w.value
the_modal (modal.New n) = derivation.by_new n

abbrev pub the_term_arg : term_arg.TermArg → derivation.TermArg
the_term_arg term.None = derivation.no_term
the_term_arg (term.Term t) = derivation.by_term (the_shared_term t)
the_term_arg (term.Name n) = derivation.by_name n

abbrev pub the_row_arg : row_arg.RowArg → derivation.TermArg
the_row_arg row.None = derivation.no_term
the_row_arg (row.Term t) = derivation.by_term t
the_row_arg (row.Name n) = derivation.by_name n

abbrev pub the_step : step_type.Step → derivation.Step
the_step (step.Use n m t) = derivation.apply_to n (the_modal m) (the_term_arg t)
the_step (step.Axiom n k) = derivation.close n k
