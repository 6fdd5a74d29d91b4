pub mod Numbers
pub mod Names
pub mod GivenFiles
pub mod Told
pub mod Judging
pub mod Ran
