pub mod Outside
pub mod Memory
pub mod Reads
pub mod TextView
