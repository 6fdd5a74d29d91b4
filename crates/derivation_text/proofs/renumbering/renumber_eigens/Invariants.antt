use Rattle.std.proofs.Common.{◌≡◌, ℕ, [], map, take}
use Rattle.calculus.specs.Versions.{numbering, same_label, stated_eigen}
use Rattle.derivation_text.specs.Entering.{derivation_with}
use Rattle.derivation_text.specs.NumbersView.{the_numbered_eigen}
use Rattle.derivation_text.specs.Renumbering.{AreNew}
use Rattle.derivation_text.proofs.renumbering.renumber_eigens.Given as goal

abbrev pub invariant-loop-name : goal.invariant-loop-name
invariant-loop-name l = record {
  put : (limit : ℕ) → l.initial.to ≡ numbering (derivation_with limit [] [] []) → l.to ≡ numbering (derivation_with limit (map (λ x. stated_eigen l.d.labels (the_numbered_eigen x)) (take l.name-index l.names)) [] []);
  labels : AreNew same_label [] l.d.labels l.to.labels l.labels;
  terms : l.to.terms ≡ l.initial.to.terms;
}
