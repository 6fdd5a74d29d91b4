use Rattle.std.proofs.Common.{◌≡◌, map, take, drop, Some, IsSome}
use Rattle.std.specs.List.{AllByRecursion}
use Rattle.name_order.specs.ByNumber.Collected.{the_lists}
use Rattle.name_order.specs.Found.{find_in}
use Rattle.name_order.specs.ByNumber.ReachedView.{the_keys}
use Rattle.name_order.proofs.guide.order.Given as goal

abbrev pub invariant-loop-list : goal.invariant-loop-list
invariant-loop-list l = record {
  left : AllByRecursion (λ ts. AllByRecursion (λ x. IsSome (find_in (the_keys l.table l.agenda.keys) x)) ts) (the_lists l.table (drop l.list-index l.lists));
  found : map (map (find_in (the_keys l.table l.agenda.keys))) (the_lists l.table (take l.list-index l.lists)) ≡ map (map Some) l.all.items;
}
