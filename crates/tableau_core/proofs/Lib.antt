-- How this crate is proved.
--
-- Carried by `WalkLaws.instance-by`: one walk over an instance answers its steps exactly where the instance is allowed.
--
-- `is_closed` goes once over the closings.
--
-- - *One instance.* `walk` follows a signed formula with the sides, values and literals that are still to come; `left` (`Walks`) is what
--   it leaves, with the number of modal steps capped at 2^64 - 1. `WalkLaws.part-by` has what a signed formula gives by its modal part,
--   shape and components (each case `refl`), `left-*` one lemma for each arm, `instance-by` the whole: `steps_if_allowed` is `Some`
--   exactly where the instance is allowed.
-- - *Names.* `home` answers `label_of` by references into the values (`HomeLaws`: `along`, `along-last`, `along-further`, `along-stuck`);
--   `WayLaws.made-inside` goes down one position; `StringLaws.steps-of`: whether a string is a step depends on its length alone;
--   `FittingLaws.fits-along`: values fit a way whatever the label.
-- - *Sizes.* One table has the sizes of the formula's parts in preorder (`sizes_of`). A `Part` carries the slice that begins with its own
--   size (`BeginsWithSizes`), so the second of two components is found without counting (`SizeLaws.sized-parts`; `behind-some` and
--   `behind-rest` for the slice). A `SizedProblem` is a model whose value is that of its problem, so clauses say `problem.now` and most
--   answers are the same with a table as without. `SizedProblem::new` makes the table; `is_closed`, `name_order` and `sequent_convert`
--   make one each.
-- - *Closings.* `closed_one` and `closed_all` (`Counted`) say whether goals are closed and, if so, how many steps and how long a string
--   the instances have, so the bound on strings is judged at the end without a second way (`CloseLaws.short-by`). `CountLaws` has one
--   lemma for each exit; `closed-small`: the count stays below 2^64, which the loop's invariant needs, since the range of a variable that
--   a loop changes is not among the facts at its end.
-- - *Examples* (`proofs/Examples.antt`): a tableau in each logic, and the same with one thing wrong, by `refl`.
--
-- And: values by number.
--
-- Carried by the laws of the walk, which are over any view, and by `KnownLaws` (what is known of the lists before a list tells it of the
-- list).
--
-- Views take the lists of the table as an argument (`specs/Numbered`: `the_literal ls`, `the_instance ls`, ..), and so do the answers; a
-- closing has a copy in the definitions (`Numbered.Closings`), whose instances name values by numbers, and `closing_in ls` leads to the
-- calculus.
--
-- - *Names* are admitted by one loop over the table, before the closings are looked at (`admitted_lists`). A list that is not empty is of
--   one kind, so one `bool` tells it of all three (`terms-known`, `marks-known`, `values-known`).
-- - *Gamma terms* are allowed everywhere in constant domains (`constant-term`). Else the lists of terms inside are kept in a set and taken
--   out from the highest number down: each names lower ones, so none comes twice, no list of those that were seen is needed, and the bound
--   of the numbers in the set falls (`AheadLaws`: `insert-all`, `insert-bound`).
-- - *Atoms, labels and values* are compared by normal numbers (`told`); a label that is being walked is compared character by character
--   (`begins-next`, `begins-not`).

pub mod Comparing
pub mod Places
pub mod Environments
pub mod WayLaws
pub mod HomeLaws
pub mod WalkLaws
pub mod InstanceLaws
pub mod PathLaws
pub mod CountLaws
pub mod CloseLaws
pub mod AllowanceLaws
pub mod FittingLaws
pub mod StringLaws
pub mod Examples
pub mod SizeLaws
pub mod Numbered
