-- How this crate is proved.
--
-- Carried by the invariants of three loops, each of which says that the rest of the words gives what all of them give (`given`,
-- `operands`, `first_bad`); all goals but those on numbers and on the front of a word close alone.
--
-- `WordLaws.stripped`: what std strips off a word is its front. `NumberLaws`: the number that a word writes (`number-some`, `number-none`,
-- `number-outside`).

pub mod NumberLaws
pub mod WordLaws
-- examples that compute
mod WordExamples
