use Rattle.term_store.proofs.WellLaws.{well-none}
use Rattle.term_store.proofs.store.Store.new.Goals as goal

pub invariant_of-result : goal.invariant_of-result
invariant_of-result c = rw (c.new.ensures.list, c.new-2.ensures.items, c.new-3.ensures.list) well-none
