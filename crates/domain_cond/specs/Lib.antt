-- ways that are followed by cells
pub mod Ways
-- what stands in terms
pub mod Leaves
-- equations that homes force
pub mod Conditions
-- what stands in gamma terms
pub mod Standings
-- the view of the program's standings
pub mod StandingView
-- ranks by rounds
pub mod Ranks
