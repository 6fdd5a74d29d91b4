-- Whether arguments fit a kind of formula is told by their forms.
use Rattle.std.proofs.Common.{◌≡◌, ◌&&◌, ◌∙◌, refl}
use Rattle.calculus.specs.declared.kind.ModalPart.{ModalPart}
use Rattle.calculus.specs.declared.kind.ModalPart.TheVariants.{Plain, Nu, Pi}
use Rattle.calculus.specs.declared.kind.Shape.{Shape}
use Rattle.calculus.specs.declared.kind.Shape.TheVariants.{Alpha, Beta, Gamma, Delta, Literal}
use Rattle.calculus.specs.Calculus.{has_step, modal_fits, term_fits}
use Rattle.calculus.specs.Derivations.{ModalArg, no_modal, to, by_new, TermArg, no_term, by_term, by_name}
use Rattle.sequent_calc.specs.FormView.{fits_modal, fits_term, modal_form, term_form}
use Rattle.sequent_calc.specs.declared.form.ModalForm.{ModalForm}
use Rattle.sequent_calc.specs.declared.form.TermForm.{TermForm}

modal-by : (p : ModalPart) (m : ModalArg) → fits_modal p (modal_form m) ≡ modal_fits p m
modal-by Plain no_modal = refl
modal-by Plain (to w) = refl
modal-by Plain (by_new n) = refl
modal-by Nu no_modal = refl
modal-by Nu (to w) = refl
modal-by Nu (by_new n) = refl
modal-by Pi no_modal = refl
modal-by Pi (to w) = refl
modal-by Pi (by_new n) = refl

term-by : (s : Shape) (t : TermArg) → fits_term s (term_form t) ≡ term_fits s t
term-by Alpha no_term = refl
term-by Alpha (by_term t) = refl
term-by Alpha (by_name n) = refl
term-by Beta no_term = refl
term-by Beta (by_term t) = refl
term-by Beta (by_name n) = refl
term-by Gamma no_term = refl
term-by Gamma (by_term t) = refl
term-by Gamma (by_name n) = refl
term-by Delta no_term = refl
term-by Delta (by_term t) = refl
term-by Delta (by_name n) = refl
term-by Literal no_term = refl
term-by Literal (by_term t) = refl
term-by Literal (by_name n) = refl

pub fit-by : (p : ModalPart) (s : Shape) (a : ModalForm) (b : TermForm) (m : ModalArg) (t : TermArg) → a ≡ modal_form m → b ≡ term_form t → (fits_modal p a && fits_term s b && has_step p s) ≡ (modal_fits p m && term_fits s t && has_step p s)
fit-by p s a b m t e f = (λ i. fits_modal p (e i) && fits_term s (f i) && has_step p s) ∙ (λ i. modal-by p m i && term-by s t i && has_step p s)
