-- what contracts see
pub mod StructureView
pub mod Codes
-- truth
pub mod Seeking
pub mod Shortened
pub mod Judging
-- the text
pub mod Items
pub mod Slots
pub mod Reading
pub mod EntriesLeft
-- the conditions
pub mod Conditions
