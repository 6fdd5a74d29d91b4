-- How this crate is proved.
--
-- Writers append pieces; `Texts.next` adds one piece to what was appended, and `Texts` has for each family that its pieces, grouped to the
-- left as they are written, are the definition's text (`link-text`, `goal-text`, `chain-pieces`, `shifted-text`, `shift-pieces`,
-- `tower-pieces`). `Joining`: a repeated list and what is written of a range grow at the end (`repeat-more`, `range-more`).

pub mod Joining
pub mod Texts
