use Rattle.std.proofs.Common.{[], ap, ◌∙◌}
use Rattle.name_order.specs.Arranged.{joined}
use Rattle.name_order.specs.ByNumber.Collected.{the_lists}
use Rattle.name_order.specs.ByNumber.Order.{the_turns}
use Rattle.name_order.specs.ByNumber.ReachedView.{the_all}
use Rattle.name_order.specs.Keeping.{keep_all, turn_eq}
use Rattle.name_order.proofs.ByNumber.OrderLaws.{sorted-arranged}
use Rattle.name_order.proofs.agenda.arrange.Goals as goal

pub returns-clause-arranged : goal.returns-clause-arranged
returns-clause-arranged c =
    let ls = c.args.table.now in
    sorted-arranged ls c.in_ok-deep.deep.items c.sort_turns.new.turns.items (joined (the_lists ls c.args.lists.now)) (the_all ls c.in_ok-agenda.agenda.keys) (c.in_ok-deep.ensures.turns ∙ ap (the_all ls) c.as_slice.ensures.keys ∙ c.in_ok-kept.ensures) c.in_ok-deep.ensures.deep c.sort_turns.ensures.permutation c.in_ok-sort_turns.ensures.sorted (c.in_ok-agenda.ensures.kept ∙ ap (λ ts. keep_all turn_eq [] (the_turns ls ts)) c.deref-2.ensures.value)
