-- the state of the walk
pub mod MarkingView
