-- How this crate is proved: problems that are decided.
--
-- Carried by `PruningLaws.closed_within_atoms`: what is closed within some limit by atoms of a list is closed within the length of the
-- list, since a goal with a complement on its path is reduced and not extended.
--
-- - *Propositional problems.* `DecisionLaws.decided`: the test for a way through all instances decides, and a way is truth values
--   (`PropositionalLaws.all_says`). `ExclusionLaws.all-hit`: what signed formulas that hold give has a true literal, so a closed tableau
--   and refuting truth values exclude each other. `StructureLaws`: truth values make a finite structure.
-- - *Finitely many ground terms.* `RangeLaws.decided_over`: over any list of allowed terms that has the eigenvariables reached by it, the
--   same test decides; `FiniteLaws.flat-has`: the constants and eigenvariables are such a list where no delta position is below a gamma
--   position. `CountermodelLaws.is-structure`: where functions are constants, these terms are a structure.

-- a closed tableau can be closed within the number of its atoms
pub mod PruningLaws
-- so instances that span close one within it
pub mod AtomLaws
-- instances of propositional problems
pub mod PropositionalLaws
-- propositional logic is decided
pub mod DecisionLaws
-- and the other way it has a finite structure that refutes it
pub mod StructureLaws
-- problems whose ground terms are finitely many
pub mod RangeLaws
-- without a delta position below a gamma position
pub mod FiniteLaws
-- and it has a finite structure that refutes it
pub mod CountermodelLaws
-- what the answers of deepening tell of these
pub mod AnswerLaws
-- and a closed tableau excludes them
pub mod ExclusionLaws
-- laws that are here for the reader
mod ForReaders
-- the definitions at small formulas
mod Examples
