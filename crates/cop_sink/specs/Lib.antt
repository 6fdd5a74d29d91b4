pub mod Output
pub mod Memory
