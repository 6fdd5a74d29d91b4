-- The parts of a derivation with numbers that those of the program stand for.
use Rattle.std.specs.Prelude.{ℕ, List, map, Option, length, IsTrue}
use Rattle.std.specs.List.{list_all}
use Rattle.calculus.specs.Syntax.{Term}
use Rattle.calculus.specs.Derivations.{Label}
use Rattle.calculus.specs.Versions as numbers
use Rattle.calculus.specs.Versions.{NumberedDerivation, NumberedEigen, NumberedSpare}
use Rattle.derivation_text.specs.Listed.{are_listed, has_home_among, may_have_home_among}
use Rattle.derivation_text.specs.declared.numbers.NumberedModal as modal
use Rattle.derivation_text.specs.declared.numbers.NumberedModal.TheVariants as modal_is
use Rattle.derivation_text.specs.declared.numbers.NumberedTerm as arg
use Rattle.derivation_text.specs.declared.numbers.NumberedTerm.TheVariants as arg_is
use Rattle.derivation_text.specs.declared.numbers.NumberedStep as step
use Rattle.derivation_text.specs.declared.numbers.NumberedStep.TheVariants as step_is

abbrev pub the_numbered_modal : modal.NumberedModal → numbers.NumberedModal
the_numbered_modal modal_is.None = numbers.no_numbered_modal
the_numbered_modal (modal_is.To k) = numbers.to_number k
the_numbered_modal (modal_is.New n) = numbers.by_character n

abbrev pub the_numbered_arg : arg.NumberedTerm → numbers.NumberedTerm
the_numbered_arg arg_is.None = numbers.no_numbered_term
the_numbered_arg (arg_is.Term k) = numbers.by_number k
the_numbered_arg (arg_is.Name n) = numbers.by_eigen n

abbrev pub the_numbered_step : step.NumberedStep → numbers.NumberedStep
the_numbered_step (step_is.Use n m t) = numbers.numbered_use n (the_numbered_modal m) (the_numbered_arg t)
the_numbered_step (step_is.Axiom n k) = numbers.numbered_axiom n k

abbrev pub the_numbered_eigen : ℕ × ℕ → NumberedEigen
the_numbered_eigen x = record { number = x.0; home = x.1 }

abbrev pub the_numbered_spare : ℕ × Option ℕ → NumberedSpare
the_numbered_spare x = record { number = x.0; home = x.1 }

abbrev pub the_numbered_derivation : ℕ → List Label → List (ℕ × ℕ) → List (ℕ × Option ℕ) → List Term → List step.NumberedStep → NumberedDerivation
the_numbered_derivation limit labels eigens spares terms steps = record {
  limit = limit;
  labels = labels;
  eigens = map the_numbered_eigen eigens;
  spares = map the_numbered_spare spares;
  terms = terms;
  steps = map the_numbered_step steps;
}

-- each number is that of a label or a term that is listed
pub record AreAmong (x : NumberedDerivation) : Type 0 where
  pub eigens : IsTrue (list_all (has_home_among (length x.labels)) x.eigens)
  pub spares : IsTrue (list_all (may_have_home_among (length x.labels)) x.spares)
  pub steps : IsTrue (list_all (are_listed (length x.labels) (length x.terms)) x.steps)
