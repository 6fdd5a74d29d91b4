use Rattle.std.proofs.Common.{subst}
use Rattle.calculus.specs.Syntax.{spare}
use Rattle.derivation_text.specs.Listing.{AreApart}
use Rattle.derivation_text.proofs.PlaceLaws.{items-apart}
use Rattle.derivation_text.proofs.term_list.TermList.are_apart.Goals as goal

pub returns : goal.returns
returns c = λ e. subst (λ l. AreApart l (spare 0)) c.self.view_is (items-apart c.self.inside.rows.keys (spare 0) c.self.inside.places c.self.invariant.1 c.self.invariant.0 (c.are_apart.ensures e))
