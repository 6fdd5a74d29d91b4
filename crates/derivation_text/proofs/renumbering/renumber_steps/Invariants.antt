use Rattle.std.proofs.Common.{◌≡◌, ℕ, List, [], map, take}
use Rattle.calculus.specs.Derivations.{EigenName, SpareName}
use Rattle.calculus.specs.Versions.{numbering, same_label, stated_step}
use Rattle.derivation_text.specs.Entering.{derivation_with}
use Rattle.derivation_text.specs.NumbersView.{the_numbered_step}
use Rattle.calculus.specs.Equality.{term_eq}
use Rattle.calculus.specs.Syntax.{spare}
use Rattle.derivation_text.specs.Renumbering.{AreNew}
use Rattle.derivation_text.proofs.renumbering.renumber_steps.Given as goal

abbrev pub invariant-loop-step : goal.invariant-loop-step
invariant-loop-step l = record {
  put : (limit : ℕ) (es : List EigenName) (ss : List SpareName) → l.initial.to ≡ numbering (derivation_with limit es ss []) → l.to ≡ numbering (derivation_with limit es ss (map (λ x. stated_step l.d.labels l.d.terms (the_numbered_step x)) (take l.step-index l.steps)));
  labels : AreNew same_label [] l.d.labels l.to.labels l.labels;
  terms : AreNew term_eq (spare 0) l.d.terms l.to.terms l.terms;
}
