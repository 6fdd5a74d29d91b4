-- truth of what is written, and what follows
pub mod SourceTruth
pub mod Following
