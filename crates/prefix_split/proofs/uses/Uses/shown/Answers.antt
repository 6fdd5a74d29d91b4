use Rattle.std.proofs.Common.{map}
use Rattle.term_store.specs.RefView.{the_place}
use Rattle.term_unify.proofs.SameLaws.{place-below}
use Rattle.prefix_split.proofs.uses.Uses.shown.Goals as goal

pub is_lone-requires : goal.is_lone-requires
is_lone-requires c = place-below _ (map the_place c.args.label.now) _ c.reference_at.result.0 c.requires c.reference_at.ensures
