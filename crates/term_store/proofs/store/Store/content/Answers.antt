use Rattle.std.proofs.Common.{subst}
use Rattle.term_store.specs.Shown.{Shows}
use Rattle.term_store.proofs.StoreFacts.{shows-at}
use Rattle.term_store.proofs.store.Store.content.Goals as goal

pub returns-clause-shows : goal.returns-clause-shows
returns-clause-shows c =
    subst (λ v. Shows v.store c.args.r.0 c.get.result.content) c.self.view_is (shows-at _ _ _ c.args.r.0 c.get.result c.self.invariant c.get.ensures)
