use Rattle.std.proofs.Common.{◌≡◌, ◌++◌, map, take}
use Rattle.formula_core.specs.GroundLists.{the_value}
use Rattle.name_order.proofs.walk.extended.Given as goal

abbrev pub invariant-loop-value : goal.invariant-loop-value
invariant-loop-value l = map (the_value l.table) l.all.items ≡ map (the_value l.table) (take l.value-index l.taken)

abbrev pub invariant-loop-value-2 : goal.invariant-loop-value-2
invariant-loop-value-2 l = map (the_value l.table) l.all.items ≡ map (the_value l.table) l.taken ++ map (the_value l.table) (take l.value-index l.more)
