-- How this crate is proved.
--
-- Carried by `LabelLaws.label-one`: a label has one place. By induction on the label, two places with it have one link (`one-chain`).
--
-- - `Chains`: a table of lists from links, an item and the place of the rest; a place keeps its list as the table grows (`ChainLaws`).
--   `Labels` is such a table, whose links are found by their hashes, and `Substitutions` of `derivation_branch` is one. Places have 32
--   bits, which keeps entries small; a table that would need more is beyond memory (`place_of`).
-- - `IsRung` tells two beginnings of a label, and `prefix-shorter` keeps the question on the way to a shorter one.
-- - *Cutting back.* Where memory ends while a label is added, the table goes back to what it was: the labels of the first links are a
--   beginning of all (`take-longer`), and there is one beginning of each length (`one-front`). The ways to beginnings lead to earlier
--   places, so they stay (`cut-kept`).

pub mod ChainLaws
pub mod TableLaws
pub mod LabelLaws
pub mod BeginningLaws
pub mod CutLaws
