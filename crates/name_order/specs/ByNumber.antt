-- ==== names of tableaux whose ground values are numbers of a table

pub mod TurnView
pub mod ReachedView
pub mod NameView
pub mod NamedView
pub mod WalkView
pub mod Collected
pub mod Depths
pub mod Order
pub mod Inside
pub mod Seeing
pub mod Waiting
pub mod Naming
pub mod Numbered
pub mod Holding
