-- what a store keeps, and the cut of a moment
pub mod Stores
-- what bindings and new cells leave as it was
pub mod Bindings
-- label equations
pub mod Systems
-- clauses with places for values, and their copies
pub mod Patterns
pub mod Templates
