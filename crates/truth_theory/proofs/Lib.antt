-- How this crate is proved: what has a closed tableau is true in each structure of its setting.
--
-- Carried by `TruthLaws.closed-true`, and for structures of any size by `closed-valid`: in all six logics and for the three domain
-- conditions. It goes by structures and not by a derivation of the tableau, so no number has to be in range.
--
-- In a structure in which the formula is false at the root, each allowed instance has a true literal; so a closed tableau would have two
-- that are complementary (`WalkLaws.pair_of_closed` of `calculus`).
--
-- - *Choices.* A signed formula that has the truth value of its sign says so of its components, with elements for its variables
--   (`NodeTruth.node-truth`): of those of a pi part at some world, of that of a delta formula with some element. These are chosen for each
--   signed formula, at each world (`Choices.chosen_at`), inside its domain also where the formula says nothing.
-- - *Meanings.* An eigenvariable or character holds the values taken on the way to its position. Their meanings are followed down the
--   formula, and it means what is chosen at the end (`Meanings`); so no numbers and no names are needed. A character leads to its world from
--   each world that reaches it, and else to the next one, so that each label has a world (`GroundWorlds`).
-- - *Ways.* Each node of a way is the end of the way to its own position (`PathLaws.way-path`); so following the values leads to the world
--   of the label and the elements of the terms (`Followed.past-halves` for a node, `followed-stood` for a place).
-- - *Domains.* A term that is admitted and allowed means an element of the domain (`AllowedLaws.term-inside`), an eigenvariable one of its
--   home's, also one that no instance introduces (`eigen-inside`).
-- - *Literals.* The places at which the formula has the truth value of its sign are saturated (`TruthLaws.saturated`), in the sense in which
--   `conversion_theory` says it of a branch, so each instance has a literal there (`HitLaws.hit`).

-- what is true of a signed formula is true of its components
pub mod NodeTruth
-- the world and the element that it leads to
pub mod Choices
-- worlds of labels
pub mod GroundWorlds
-- what terms and marks mean
pub mod Meanings
-- the nodes of a way
pub mod PathLaws
-- values are followed down the formula
pub mod Followed
-- allowed terms lie in the domain
pub mod AllowedLaws
-- closed tableaux and truth
pub mod TruthLaws
