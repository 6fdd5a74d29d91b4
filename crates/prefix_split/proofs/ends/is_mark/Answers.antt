use Rattle.std.proofs.Common.{◌∙◌, sym}
use Rattle.prefix_split.proofs.GrowingLaws.{mark-end}
use Rattle.prefix_split.proofs.ends.is_mark.Goals as goal

pub returns : goal.returns
returns c = λ e. mark-end c.args.store.now.store c.args.end.0 c.head-found.result c.requires c.head-found.ensures (sym c.is_mark_head.ensures ∙ e)
