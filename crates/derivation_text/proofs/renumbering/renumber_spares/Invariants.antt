use Rattle.std.proofs.Common.{◌≡◌, ℕ, List, [], map, take}
use Rattle.calculus.specs.Derivations.{EigenName}
use Rattle.calculus.specs.Versions.{numbering, same_label, stated_spare}
use Rattle.derivation_text.specs.Entering.{derivation_with}
use Rattle.derivation_text.specs.NumbersView.{the_numbered_spare}
use Rattle.derivation_text.specs.Renumbering.{AreNew}
use Rattle.derivation_text.proofs.renumbering.renumber_spares.Given as goal

abbrev pub invariant-loop-name : goal.invariant-loop-name
invariant-loop-name l = record {
  put : (limit : ℕ) (es : List EigenName) → l.initial.to ≡ numbering (derivation_with limit es [] []) → l.to ≡ numbering (derivation_with limit es (map (λ x. stated_spare l.d.labels (the_numbered_spare x)) (take l.name-index l.names)) []);
  labels : AreNew same_label [] l.d.labels l.to.labels l.labels;
  terms : l.to.terms ≡ l.initial.to.terms;
}
