use Rattle.std.proofs.Common.{[], IsTrue, map}
use Rattle.std.specs.List.{list_all}
use Rattle.calculus.specs.Labels.{is_step_length}
use Rattle.calculus.specs.Syntax.{Problem}
use Rattle.term_store.specs.RefView.{the_place}
use Rattle.term_store.specs.Room.{KeepsRoom}
use Rattle.prefix_split.specs.Later.{KeepsRight}
use Rattle.prefix_split.proofs.LengthLaws.{IsGivenTo}
use Rattle.prefix_split.proofs.lengths.give_lengths.Given as goal

abbrev pub invariant-loop-i : goal.invariant-loop-i
invariant-loop-i l = record {
  given : IsGivenTo l.initial.store.store l.store.store (map the_place l.strings) l.lengths l.i;
  right : (P : Problem) → IsTrue (list_all (is_step_length P.setting.logic) l.lengths) → KeepsRight P [] l.initial.store.store l.store.store;
  room : KeepsRoom l.initial.store l.store;
}
