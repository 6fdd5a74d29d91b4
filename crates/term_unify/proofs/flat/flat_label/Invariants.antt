use Rattle.std.proofs.Common.{ℕ, IsTrue, map, nat_le}
use Rattle.std.specs.List.{list_all}
use Rattle.store_theory.specs.Bindings.{NamesFrom}
use Rattle.term_store.specs.RefView.{the_place}
use Rattle.term_unify.proofs.FlatLaws.{IsFlatTo}
use Rattle.term_unify.proofs.flat.flat_label.Given as goal

abbrev pub invariant-loop-i : goal.invariant-loop-i
invariant-loop-i l = record {
  flat : IsFlatTo l.store.store (map the_place l.label) (map the_place l.marks.items) l.i;
  from : (base : ℕ) → NamesFrom base l.store.store → IsTrue (list_all (nat_le base) (map the_place l.label)) → IsTrue (list_all (nat_le base) (map the_place l.marks.items));
}
