use Rattle.std.proofs.Common.{◌∙◌, ap, sym}
use Rattle.calculus.specs.Derivations.{to}
use Rattle.calculus.specs.Versions.{stated_modal}
use Rattle.derivation_text.specs.NumbersView.{the_numbered_modal}
use Rattle.derivation_check.proofs.label_places.label_argument.Goals as goal

pub returns-in-To-clause-same : goal.returns-in-To-clause-same
returns-in-To-clause-same c = λ labels table h. ap to (c.place_at.ensures labels table h).1 ∙ ap (λ m. stated_modal labels (the_numbered_modal m)) (sym c.in-To.is)

pub returns-in-To-clause-within : goal.returns-in-To-clause-within
returns-in-To-clause-within c = λ labels table h. (c.place_at.ensures labels table h).0
