use Rattle.std.proofs.Common.{map}
use Rattle.formula_core.specs.GroundLists.{IsGrown}
use Rattle.term_store.specs.RefView.{the_place}
use Rattle.tableau_reading.specs.Grounds.{IsReading}
use Rattle.tableau_reading.proofs.MakingLaws.{AreMadeTo}
use Rattle.tableau_reading.proofs.reading.make_all.Given as goal

abbrev pub invariant-loop-i : goal.invariant-loop-i
invariant-loop-i l = record {
  reading : IsReading l.from.store.now.store l.from.homes.now l.grounds;
  grown : IsGrown l.initial.grounds.table l.grounds.table;
  made : AreMadeTo l.from.store.now.store l.grounds.made.items (map the_place l.refs) l.i;
}
