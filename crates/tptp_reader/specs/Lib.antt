-- ---- the definitions, in reading order

-- terms, formulas and items as they are written
pub mod Sources
-- tokens as the grammar sees them
pub mod Terminals
-- the trees of the grammar with their tokens, what they say, and how deep their tokens stand
pub mod Grammar
pub mod Meaning
pub mod Nesting
-- faults, and what reading gives
pub mod Faults
pub mod Reading
pub mod Answers
-- ---- what the check asks for: lists inside trees, codes, sizes, and what values of the program stand for

pub mod Lists
pub mod Codes
pub mod Sizes
pub mod TermView
pub mod SourceView
pub mod ItemView
pub mod Falls
-- ---- the code's way

pub mod Expecting
-- ---- tokens of the program

pub mod TerminalView
pub mod Pieces
pub mod ExpectedView
pub mod Following
pub mod Spans
pub mod Standing
pub mod ClauseStanding
pub mod ItemStanding
pub mod Failing
