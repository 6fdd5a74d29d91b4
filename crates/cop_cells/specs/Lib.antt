pub mod Reserved
pub mod Pages
pub mod Places
pub mod Memory
pub mod Layout
