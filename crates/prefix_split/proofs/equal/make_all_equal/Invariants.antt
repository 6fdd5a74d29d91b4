use Rattle.std.proofs.Common.{map}
use Rattle.std.specs.List.{flat_map}
use Rattle.calculus.specs.Syntax.{Problem}
use Rattle.term_store.specs.Room.{KeepsRoom}
use Rattle.term_store.specs.SystemView.{the_equation}
use Rattle.prefix_split.specs.Equated.{equation_cells}
use Rattle.prefix_split.specs.Later.{KeepsRight}
use Rattle.prefix_split.proofs.EqualLaws.{AreMadeTo}
use Rattle.prefix_split.proofs.equal.make_all_equal.Given as goal

abbrev pub invariant-loop-i : goal.invariant-loop-i
invariant-loop-i l = record {
  made : AreMadeTo l.initial.store.store l.store.store (map the_equation l.equations) l.i;
  right : (P : Problem) → KeepsRight P (flat_map equation_cells (map the_equation l.equations)) l.initial.store.store l.store.store;
  room : KeepsRoom l.initial.store l.store;
}
