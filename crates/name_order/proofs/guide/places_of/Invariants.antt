use Rattle.std.proofs.Common.{◌≡◌, map, take, drop, Some, IsSome}
use Rattle.std.specs.List.{AllByRecursion}
use Rattle.name_order.specs.Found.{find_in}
use Rattle.name_order.specs.ByNumber.ReachedView.{the_all, the_keys}
use Rattle.name_order.proofs.guide.places_of.Given as goal

abbrev pub invariant-loop-turn : goal.invariant-loop-turn
invariant-loop-turn l = record {
  left : AllByRecursion (λ x. IsSome (find_in (the_keys l.table l.agenda.keys) x)) (the_all l.table (drop l.turn-index l.turns));
  found : map (find_in (the_keys l.table l.agenda.keys)) (the_all l.table (take l.turn-index l.turns)) ≡ map Some l.all;
}
