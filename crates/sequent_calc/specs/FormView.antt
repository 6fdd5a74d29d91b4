-- Of which form an argument of a step is, and which forms a kind of formula asks for.
use Rattle.std.specs.Prelude.{Bool, true, false}
use Rattle.calculus.specs.declared.kind.ModalPart.{ModalPart}
use Rattle.calculus.specs.declared.kind.ModalPart.TheVariants.{Plain, Nu, Pi}
use Rattle.calculus.specs.declared.kind.Shape.{Shape}
use Rattle.calculus.specs.declared.kind.Shape.TheVariants.{Gamma, Delta}
use Rattle.calculus.specs.Derivations as derivation
use Rattle.sequent_calc.specs.declared.form.ModalForm.{ModalForm}
use Rattle.sequent_calc.specs.declared.form.ModalForm.TheVariants as modal
use Rattle.sequent_calc.specs.declared.form.TermForm.{TermForm}
use Rattle.sequent_calc.specs.declared.form.TermForm.TheVariants as term

abbrev pub modal_form : derivation.ModalArg → ModalForm
modal_form derivation.no_modal = modal.None
modal_form (derivation.to w) = modal.To
modal_form (derivation.by_new n) = modal.New

abbrev pub term_form : derivation.TermArg → TermForm
term_form derivation.no_term = term.None
term_form (derivation.by_term t) = term.Term
term_form (derivation.by_name n) = term.Name

abbrev pub fits_modal : ModalPart → ModalForm → Bool
fits_modal Plain modal.None = true
fits_modal Nu modal.To = true
fits_modal Pi modal.New = true
fits_modal _ _ = false

abbrev pub fits_term : Shape → TermForm → Bool
fits_term Gamma term.Term = true
fits_term Gamma _ = false
fits_term Delta term.Name = true
fits_term Delta _ = false
fits_term _ term.None = true
fits_term _ _ = false
