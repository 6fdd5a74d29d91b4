-- How this crate is proved.
--
-- Carried by `FollowingLaws.means_items`: where the formula of a problem of files is true in a structure in which `=` is identity, the
-- conjecture follows there from the premises as they are written.
--
-- - *Truth values and statements.* `TruthLaws`: a truth value is true exactly where what it says is (`and-says`, `each-says`,
--   `lasts-says`); `ConnectiveLaws` says it of a formula of each shape (`neg-means`, `binary-means`) and of balanced chains
--   (`conjunction-all`).
-- - *Expansion.* `SourceLaws.source-means`: the expanded formula says what is written, the variables having the elements of their names
--   (`Agrees`); `closed-means` says it of an item with its quantifiers round it. `FreeLaws` and `LastingLaws.universal`: these quantifiers
--   say no more and no less than that it is true whatever elements all names are.
-- - *Equality.* `EqualityTruth.equality_axioms-true`: the axioms of equality are true where `=` is identity, so they are premises that may
--   be left out.
-- - *What passes.* `WellLaws.walk-well`: modal operators pass in modal logics alone, so truth of what passes lasts in intuitionistic logic.

-- truth values and what they say
pub mod TruthLaws
pub mod ConnectiveLaws
-- expanded formulas mean what is written
pub mod SourceLaws
-- truth depends on the free variables alone
pub mod FreeLaws
pub mod LastingLaws
-- what walks let pass
pub mod WellLaws
-- the axioms of equality are true where `=` is identity
pub mod EqualityTruth
-- a problem of files means what their items do
pub mod FollowingLaws
