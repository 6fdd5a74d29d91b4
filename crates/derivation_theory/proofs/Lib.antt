-- How this crate is proved: each derivation has a closed tableau.
--
-- Carried by `DerivedLaws.closes-refuted`: steps that close a sequent refute the places at which its entries stand, whatever its names
-- mean.
--
-- - *Places and meanings.* An entry stands at a spot of the problem's formula (`Places`, `StandsAt`); the names of a branch mean ground
--   terms and lists of marks (`Meanings`), each admitted and allowed wherever the name is (`IsProper`). That two names may mean the same
--   does no harm. A new name gets its meaning when it is introduced (`NewNameLaws`): by freshness it stands nowhere in the sequent.
-- - *Shares.* Places are refuted where finitely many shares, what an allowed instance has there, cannot all be hit without a pair
--   (`AreRefuted`). The shares of a place are those of its components (`DrawnLaws`, `StepLaws`); a fork pairs those of one branch with
--   those of the other (`RefutedLaws.refuted-two`). Shares at the root are instances (`refuted-spans`).
-- - *Atoms in intuitionistic logic.* An entry that a step on an atom adds stays at the place of the first one: the string of a T atom is
--   fixed at the axiom, the character of an F atom is that of its place (`MeansLabel`).

-- places of a problem and what refutes them
pub mod Places
-- what the names of a branch mean
pub mod Meanings
-- places refuted together
pub mod RefutedLaws
-- formulas and what they say with names
pub mod SaysLaws
-- what is drawn from a place, by what is drawn from its components
pub mod DrawnLaws
-- terms of gamma steps and what they mean
pub mod TermLaws
-- an entry and its place are of one kind
pub mod BranchLaws
-- new names and their meanings
pub mod NewNameLaws
-- a step of a derivation
pub mod StepLaws
-- what has a derivation has a closed tableau
pub mod DerivedLaws
