pub mod Table
pub mod Values
pub mod CommandLine
pub mod CommandView
