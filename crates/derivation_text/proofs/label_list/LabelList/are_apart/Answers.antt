use Rattle.std.proofs.Common.{[], subst}
use Rattle.derivation_text.specs.Listing.{AreApart}
use Rattle.derivation_text.proofs.PlaceLaws.{items-apart}
use Rattle.derivation_text.proofs.label_list.LabelList.are_apart.Goals as goal

pub returns : goal.returns
returns c = λ e. subst (λ l. AreApart l []) c.self.view_is (items-apart c.self.inside.table [] c.self.inside.places c.self.invariant.1 c.self.invariant.0 (c.are_apart.ensures e))
