-- derivations as trees, and the tree without its idle steps
pub mod Trimming
-- the names that steps mention
pub mod UsedNames
-- what a trimmed derivation is
pub mod Trims
-- the steps that are left, and how often they refer to an entry
pub mod Left
-- formulas without terms
pub mod Bare
-- the walk that finds the steps that are left
pub mod Marking
-- the walk that tells it how each step goes on
pub mod Reading
-- the walk that writes them
pub mod Writing
-- the walk that edits a list of steps
pub mod Editing
-- what the walks find
pub mod Found
