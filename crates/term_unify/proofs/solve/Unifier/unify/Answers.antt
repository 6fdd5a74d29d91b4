use Rattle.term_unify.proofs.ClosedLaws.{closed-none}
use Rattle.term_unify.proofs.solve.Unifier.unify.Goals as goal

pub unify_below-requires-clause-closed : goal.unify_below-requires-clause-closed
unify_below-requires-clause-closed c = closed-none c.args.store.now.store
