-- ---- the definitions, in reading order

pub mod Refusals
-- the files
pub mod Walk
-- the formula
pub mod Balance
pub mod Expansion
pub mod EqualityAxioms
pub mod Building
-- which files are read
pub mod Fetching
pub mod Occurring
pub mod Answers
-- ---- what helpers of the program promise

pub mod Outside
pub mod Walking
pub mod Counting
pub mod Adding
pub mod Quantifying
pub mod NameCount
pub mod Passing
pub mod Measuring
