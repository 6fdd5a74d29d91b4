-- How this crate is proved.
--
-- Carried by `TrimmedLaws.trimmed-by`: what the walks write, with the names that it mentions, is the given derivation without idle steps,
-- also where it is by way of edited steps (`MayReplace`). Of the edits themselves nothing is proved.
--
-- `PassLaws` (how a step goes on), `WriteLaws` (new numbers), `NameLaws` (names that are mentioned), `GrowthLaws` (the branches of the walk
-- that edits) and `EditLaws` (its loop) have a law for each way on which a
-- loop goes on, over plain lists.

-- the walk that tells how each step goes on
pub mod PassLaws
-- the walk that writes
pub mod WriteLaws
-- the names that are mentioned
pub mod NameLaws
-- how the walk that edits lets the branches grow
pub mod GrowthLaws
-- how it makes one edit
pub mod EditLaws
-- what the walks find
pub mod TrimmedLaws
