use Rattle.std.proofs.Common.{◌∙◌, sym}
use Rattle.prefix_split.proofs.OrderLaws.{heads-apart}
use Rattle.prefix_split.proofs.joining.are_apart.Goals as goal

pub returns : goal.returns
returns c = λ e σ t. heads-apart c.args.store.now.store σ c.args.r.0 c.args.q.0 c.head-left.result c.head-right.result t c.head-left.ensures c.head-right.ensures (sym c.are_other_names.ensures ∙ e)
