pub mod ByStatus
pub mod NameLaws
pub mod Reading
pub mod Runs
pub mod Texts
