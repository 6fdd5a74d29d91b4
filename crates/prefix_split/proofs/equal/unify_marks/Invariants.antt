use Rattle.std.proofs.Common.{◌++◌, map}
use Rattle.calculus.specs.Syntax.{Problem}
use Rattle.term_store.specs.RefView.{the_place}
use Rattle.term_store.specs.Room.{KeepsRoom}
use Rattle.prefix_split.specs.Later.{KeepsRight}
use Rattle.prefix_split.proofs.EqualLaws.{IsSameTo}
use Rattle.prefix_split.proofs.equal.unify_marks.Given as goal

abbrev pub invariant-loop-i : goal.invariant-loop-i
invariant-loop-i l = record {
  same : IsSameTo l.initial.store.store l.store.store (map the_place l.xs) (map the_place l.ys) l.i;
  right : (P : Problem) → KeepsRight P (map the_place l.xs ++ map the_place l.ys) l.initial.store.store l.store.store;
  room : KeepsRoom l.initial.store l.store;
}
