-- The definitions in reading order. `docs/READING.md` says which of them the clauses of the program
-- rest on.

-- ==== what contracts cite

-- ---- what the clauses of the program are made of

-- formulas and problems
pub mod Syntax
pub mod Measures
pub mod Problems
pub mod Propositional
-- truth: finite structures, structures of any size, and what soundness says
pub mod Structures
pub mod Models
pub mod Soundness
-- kinds and labels, and the sequent calculus
pub mod Kinds
pub mod Labels
pub mod Derivations
pub mod Substitution
pub mod Calculus
-- texts and their judgement
pub mod Text
pub mod FirstWrong
pub mod DerivationText
pub mod Judgement
-- ground values, tests of equality, positions and names
pub mod Ground
pub mod Equality
pub mod Positions
pub mod Skolem
-- the matrix: its instances (the definition to read, and the function that computes them), its
-- clauses, and connection tableaux
pub mod Instances
pub mod ComputedInstances
pub mod Clauses
pub mod Tableaux
-- the connection search: choice lists and their order, and the space that deepening goes through
pub mod Choices
pub mod Counting
pub mod Space
-- the search that does not return to solved goals
pub mod Cut
-- the way from intuitionistic logic into S4
pub mod Translation
-- the generated problems
pub mod Families
-- ---- words between crates, of which the clauses of the program say nothing

-- the children of a step
pub mod StepFacts
-- the lists inside trees as lists, and what models of program types need
pub mod Lists
pub mod Sizes
pub mod Codes
-- ==== what waits for its crate: laws of `proofs` speak of it, and no contract yet

-- the two versions of a derivation's text, and the judgement over both
pub mod Versions
pub mod VersionJudgement
-- the texts of structures and of tableaux
pub mod StructureText
pub mod StructureTruth
pub mod TableauText
