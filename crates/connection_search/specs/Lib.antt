-- the answers
pub mod Outcomes
-- the loop
pub mod Exploring
-- the loop that does not return to solved goals
pub mod Cutting
-- what contracts say of the moments of both
pub mod Moments
-- going back over points
pub mod GoingBack
-- its answers
pub mod CutOutcomes
-- lists without open goals
pub mod Deciding
