-- the atoms of instances
pub mod Atoms
-- the propositions of a formula, and truth values that refute it
pub mod Decision
-- instances over a list of terms, and truth over it
pub mod Ranging
-- problems with finitely many ground terms
pub mod Finite
-- structures whose elements are the terms of a list
pub mod Countermodels
