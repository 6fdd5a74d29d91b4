-- ==== tableaux whose ground values are numbers of a table

pub mod LiteralView
pub mod InstanceView
pub mod Closings
pub mod ClosingView
pub mod ClosingCodes
pub mod ClosingFalls
pub mod TableauView
pub mod SpotView
pub mod WalkView
pub mod Known
pub mod Ahead
