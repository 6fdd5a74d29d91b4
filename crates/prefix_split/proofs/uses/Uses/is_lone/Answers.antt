use Rattle.store_theory.proofs.BindingLaws.{ends-there}
use Rattle.prefix_split.proofs.uses.Uses.is_lone.Goals as goal

pub is_open_string-requires : goal.is_open_string-requires
is_open_string-requires c = ends-there c.args.store.now.store c.args.r.0 c.walk.result.0 c.walk.ensures.ends
