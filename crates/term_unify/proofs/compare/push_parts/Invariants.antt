use Rattle.std.proofs.Common.{◌≡◌, ◌++◌, Some, map, take}
use Rattle.std.specs.Prelude.{slice_get}
use Rattle.store_theory.specs.Stores.{Cell, parts_of}
use Rattle.store_theory.specs.Bindings.{part_pairs}
use Rattle.term_unify.specs.PairView.{the_pair}
use Rattle.term_unify.proofs.compare.push_parts.Given as goal

abbrev pub invariant-loop-i : goal.invariant-loop-i
invariant-loop-i l = (c d : Cell) → slice_get l.store.store.cells l.fn.a.0 ≡ Some c → slice_get l.store.store.cells l.fn.b.0 ≡ Some d
    → map the_pair l.pairs.items ≡ map the_pair l.initial.pairs.items ++ part_pairs (take l.i (parts_of c)) (take l.i (parts_of d))
