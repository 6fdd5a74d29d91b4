use Rattle.term_store.proofs.StoreFacts.{ended-part}
use Rattle.term_store.proofs.store.Store.part.Goals as goal

pub part_at-requires : goal.part_at-requires
part_at-requires c = ended-part c.args.self.now.store c.args.r.0 c.walk.result.0 c.args.i c.walk.ensures.ends c.requires
