use Rattle.term_store.proofs.StoreFacts.{cut-laid, cut-kept}
use Rattle.term_store.proofs.slots.cut.Goals as goal

pub returns-then-cells-len-clause-laid : goal.returns-then-cells-len-clause-laid
returns-then-cells-len-clause-laid c = rw (c.release.ensures.list, c.truncate.ensures.items) (cut-laid _ _ _ _ c.requires.laid c.get.ensures)

pub returns-then-cells-len-clause-kept : goal.returns-then-cells-len-clause-kept
returns-then-cells-len-clause-kept c = rw (c.release.ensures.list, c.truncate.ensures.items) (cut-kept _ _ _ _ c.requires.laid c.get.ensures)
