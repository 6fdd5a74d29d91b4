use Rattle.std.proofs.Common.{subst}
use Rattle.store_theory.specs.Systems.{AreTried}
use Rattle.term_store.specs.SystemView.{the_system}
use Rattle.prefix_split.proofs.proposing.checked.Goals as goal

pub returns-then-are_tried : goal.returns-then-are_tried
returns-then-are_tried c = subst (AreTried c.args.logic (the_system c.args.system.now)) c.deref.ensures.value (c.are_tried.ensures c.if-are_tried.true)
