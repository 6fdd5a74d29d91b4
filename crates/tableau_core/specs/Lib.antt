-- ==== what public contracts cite: which trees the program's values stand for

pub mod ChoiceView
-- ==== what models of lists need: codes and sizes

pub mod LiteralCodes
-- ==== what only private contracts cite

-- values, literals and places of an instance by reference
-- names and the ways to their positions
pub mod Fitting
pub mod InsideView
pub mod Reaching
-- what a walk through an instance leaves, and what is counted of a tableau
pub mod Walks
pub mod Counted
-- parts of the problem's formula and their sizes
pub mod PartView
pub mod Sizes
-- tableaux whose ground values are numbers of a table
pub mod Numbered
