-- How this crate is proved.
--
-- `FoundLaws`: what the finder gives is of the problem that was read (`found-for`), from the file that the words name (`found-by`).
pub mod FoundLaws
