use Rattle.std.proofs.Common.{◌∙◌}
use Rattle.term_store.specs.StoreView.{the_mark}
use Rattle.domain_cond.proofs.ConditionLaws.{added-undone, same-added}
use Rattle.domain_cond.proofs.homes.forced_homes.Goals as goal

pub undo-requires : goal.undo-requires
undo-requires c = (added-undone c.args.store.now.store c.all_homes.new.store.store (the_mark c.mark-start.result) c.all_homes.ensures.adds c.mark-start.ensures.good c.mark-start.ensures.whole).0

pub returns-in-Err-clause-err : goal.returns-in-Err-clause-err
returns-in-Err-clause-err c = c.undo.ensures.store ∙ (added-undone c.args.store.now.store c.all_homes.new.store.store (the_mark c.mark-start.result) c.all_homes.ensures.adds c.mark-start.ensures.good c.mark-start.ensures.whole).1

pub returns-in-Err-clause-adds : goal.returns-in-Err-clause-adds
returns-in-Err-clause-adds c = same-added c.args.store.now.store c.undo.new.self.store (c.undo.ensures.store ∙ (added-undone c.args.store.now.store c.all_homes.new.store.store (the_mark c.mark-start.result) c.all_homes.ensures.adds c.mark-start.ensures.good c.mark-start.ensures.whole).1)
