pub mod PairView
pub mod Visits
pub mod Steps
pub mod Flat
pub mod Same
pub mod Closed
pub mod Matching
