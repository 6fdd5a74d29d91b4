-- states of the search, and what its steps ask of the store
pub mod States
pub mod Steps
pub mod Regular
pub mod Joined
-- how far a search has come
pub mod Exploring
-- the matrix
pub mod Matrix
-- the choices of a goal
pub mod Goals
-- the template of a selection, computed
pub mod TemplateOf
-- those choices in their order
pub mod OrderedChoices
-- the loop's invariant
pub mod Searching
-- looking ahead at the path limit
pub mod Ahead
-- literals that are looked at before their cells are built
pub mod Uncopied
-- solving systems
pub mod Solving
pub mod Demanding
pub mod StateSystems
pub mod LabelledCells
pub mod KeepingCells
pub mod RightPatterns
-- early pruning
pub mod Pruning
pub mod HomeCells
-- the search that does not return to solved goals
pub mod Cutting
-- jumps back
pub mod Jumps
-- lists behind which nothing is
pub mod DeadEnds
-- cells of a set
pub mod CellsIn
-- labels as lists of marks
pub mod MarkLists
-- values of unbound variables
pub mod SpareRules
-- homes
pub mod HomesTold
-- goals that cannot be closed
pub mod Closing
