use Rattle.std.proofs.Common.{subst}
use Rattle.store_theory.proofs.BindingLaws.{ends-there}
use Rattle.term_store.specs.Shown.{Shows}
use Rattle.term_store.proofs.StoreFacts.{bound-not-end}
use Rattle.term_store.proofs.store.Store.parts.Goals as goal

pub returns-in-Bound-clause-count : goal.returns-in-Bound-clause-count
returns-in-Bound-clause-count c =
    let shows = subst (Shows c.args.self.now.store c.end.result.place.0) c.in-Bound.is c.end.ensures.shows in
    absurd (bound-not-end c.args.self.now.store c.end.result.place.0 c.in-Bound.field-0 c.in-Bound.field-1.0 _ (ends-there _ _ _ c.end.ensures.ends) shows.1 shows.2)
