use Rattle.std.proofs.Common.{◌∙◌, sym}
use Rattle.prefix_split.proofs.GrowingLaws.{string-end}
use Rattle.prefix_split.proofs.ends.is_open_string.Goals as goal

pub returns : goal.returns
returns c = λ e. string-end c.args.store.now.store c.args.end.0 c.head-found.result c.requires c.head-found.ensures (sym c.is_open_string_head.ensures ∙ e)
