use Rattle.std.specs.Prelude.{◌++◌, List, map, take}
use Rattle.calculus.specs.Ground as tree
use Rattle.formula_core.specs.GroundLists.{IsGrown}
use Rattle.store_theory.specs.Stores.{Solution}
use Rattle.search_theory.specs.States.{literal_by}
use Rattle.term_store.specs.ClauseView.{the_atom}
use Rattle.tableau_reading.specs.Grounds.{AreSparesAt, IsReading}
use Rattle.tableau_reading.specs.Reading.{AreLiteralsOf}
use Rattle.tableau_reading.proofs.reading.add_literals.Given as goal

abbrev pub invariant-loop-i : goal.invariant-loop-i
invariant-loop-i l = record {
  literals : (σ : Solution) → AreSparesAt l.from.store.now.store l.from.homes.now σ → (ys : List tree.GroundLiteral) → AreLiteralsOf l.initial.grounds.table l.initial.literals ys → AreLiteralsOf l.grounds.table l.literals (ys ++ map (literal_by σ) (take l.i (map the_atom l.atoms)));
  reading : IsReading l.from.store.now.store l.from.homes.now l.grounds;
  grown : IsGrown l.initial.grounds.table l.grounds.table;
}
