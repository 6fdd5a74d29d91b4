use Rattle.std.proofs.Common.{arith, IsSome, subst, sym}
use Rattle.std.specs.List.{AllByRecursion}
use Rattle.name_order.specs.ByNumber.Collected.{the_list}
use Rattle.name_order.specs.Found.{find_in}
use Rattle.name_order.specs.ByNumber.ReachedView.{the_all, the_keys}
use Rattle.name_order.proofs.ByNumber.WaitLaws.{drop-head}
use Rattle.name_order.proofs.guide.order.Goals as goal

pub places_of-requires-clause-known : goal.places_of-requires-clause-known
places_of-requires-clause-known c =
    let ls = c.args.table.now in
    let ks = the_keys ls c.args.agenda.now.keys in
    subst (λ rs. AllByRecursion (λ x. IsSome (find_in ks x)) (the_all ls rs)) (sym c.as_slice-turns.ensures.value) (drop-head (the_list ls) (λ ts. AllByRecursion (λ x. IsSome (find_in ks x)) ts) c.args.lists.now c.loop-list.list-index c.list-item.result _ (omega arith) c.list-item.is c.loop-list.invariant.left)
