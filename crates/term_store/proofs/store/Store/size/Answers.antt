use Rattle.store_theory.specs.Bindings.{HasRank}
use Rattle.store_theory.proofs.BindingLaws.{HasNoCycle-rank}
use Rattle.std.proofs.Common.{subst}
use Rattle.term_store.proofs.store.Store.size.Goals as goal

pub returns-clause-no_cycle : goal.returns-clause-no_cycle
returns-clause-no_cycle c = HasNoCycle-rank c.args.self.now.store (subst (λ v. HasRank v.store) c.self.view_is c.self.invariant.rank)
