-- turns and their order
pub mod Turns
-- numbers of names
pub mod Numbering
-- how deep values stand inside one another
pub mod Depths
-- branches that grow by turns
pub mod Branches
-- a derivation that is led by its tableau, and so is short
pub mod Leading
