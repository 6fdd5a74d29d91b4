use Rattle.formula_core.specs.GroundLists.{IsGrown}
use Rattle.store_theory.specs.Stores.{Solution}
use Rattle.tableau_reading.specs.Grounds.{AreSparesAt, IsReading}
use Rattle.tableau_reading.specs.Reading.{stacked_names}
use Rattle.tableau_reading.proofs.BuiltLaws.{AreBuiltBehind}
use Rattle.tableau_reading.proofs.StackLaws.{AreBehind}
use Rattle.tableau_reading.proofs.closings.add_closings.Given as goal

abbrev pub invariant-loop-passed : goal.invariant-loop-passed
invariant-loop-passed l = record {
  names : AreBehind l.from.matrix.now l.steps l.passed (stacked_names l.initial.stack.items) (stacked_names l.stack.items);
  built : (σ : Solution) → AreSparesAt l.from.store.now.store l.from.homes.now σ → AreBuiltBehind l.from.matrix.now l.steps l.passed l.initial.grounds.table l.grounds.table l.initial.stack.items l.stack.items σ;
  reading : IsReading l.from.store.now.store l.from.homes.now l.grounds;
  grown : IsGrown l.initial.grounds.table l.grounds.table;
}
