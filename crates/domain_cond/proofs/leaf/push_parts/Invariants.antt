use Rattle.std.proofs.Common.{◌≡◌, ◌++◌, Some, map, take}
use Rattle.std.specs.Prelude.{slice_get}
use Rattle.store_theory.specs.Stores.{Cell, parts_of}
use Rattle.term_store.specs.RefView.{the_place}
use Rattle.domain_cond.proofs.leaf.push_parts.Given as goal

abbrev pub invariant-loop-i : goal.invariant-loop-i
invariant-loop-i l = (c : Cell) → slice_get l.store.store.cells l.end.0 ≡ Some c
    → map the_place l.items.items ≡ map the_place l.initial.items.items ++ take l.i (parts_of c)
