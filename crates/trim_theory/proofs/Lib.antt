-- How this crate is proved.
--
-- Carried by `FoundLaws.is_trim-found`: what three walks over the steps find is a derivation of the same problem with the same limit,
-- which can be printed where the given one can, has no more steps and no more axioms, only the names that its steps mention, and no idle
-- step.
--
-- A step is idle where nothing below it refers to an entry that it adds; a fork is idle where one of its sides does not refer to the entry
-- that is added there, and then that side stands in its place. The conditions of a step look at the entry that is used, at the step's
-- arguments and at the names, or ask that something does not stand on the branch; so to use an entry is to refer to its number, in every
-- logic. In a logic whose nu steps lead to labels of the branch alone, as K, more would be used.
--
-- - *Trees.* `tree-of`, `steps-close` (`TrimLaws`): a list of steps that closes a sequent is that of a tree that closes it. `trim-closes`:
--   weakening with numbers, the trimmed tree closes what a mask keeps of the sequent. `PrintLaws` has lengths, axioms and printing,
--   `IdleLaws` that no step is idle, `NameLaws` that names go, `WholeLaws` the whole.
-- - *How each step goes on.* Sign and connectives of an entry tell it, without terms (`BareLaws`); so a branch of formulas as they stand in
--   the problem, cut back where a right side begins, is enough (`ReadingLaws.reads-all`).
-- - *Which steps are left.* From the last step to the first, one list of counts by entry number (`Marking`): how often the steps that are
--   left refer to it. The count of an entry is set back at the step that adds it, and where a fork is idle what the side that goes counted
--   is taken back. `MarkingLaws.run-passed`: after each tree its steps are marked and counted; `left-undone` and `right-undone` take back a
--   side.
-- - *New numbers.* From the first step to the last, a table with the new number of each entry of the branch (`Writing`):
--   `WritingLaws.numbers` is that of a mask, `trim-writes` that the walk writes the trimmed tree.
-- - *Edits.* From the first step to the last, by a list of edits of which nothing is known (`Editing`): each is tested, and any that fit
--   lead to steps that close the same (`EditingLaws.edited-closes`), with as many axioms. `PlaceLaws.Tells` is the invariant: each entry
--   of the given branch stands on the new one under its new number, and the new one has no other names or characters (`Fresher`). The
--   induction is on the edits, over the list of the branches that are still open (`edits-close`).

-- what masks keep
pub mod MaskLaws
-- the trimmed tree closes what is kept
pub mod TrimLaws
-- it is no longer, and can be printed
pub mod PrintLaws
-- it has no idle step
pub mod IdleLaws
-- names that are not mentioned can go
pub mod NameLaws
-- each derivation can be trimmed
pub mod WholeLaws
-- what is used is what the steps that are left refer to
pub mod LeftLaws
-- the walk by counts finds the steps that are left
pub mod MarkingLaws
-- formulas without terms tell how a step goes on
pub mod BareLaws
-- so the passes of a list of steps can be found without terms
pub mod ReadingLaws
-- the walk that writes new numbers writes the trimmed tree
pub mod WritingLaws
-- what an edited branch holds
pub mod PlaceLaws
-- the edited steps close what the given ones close
pub mod EditingLaws
-- the walks find the derivation without idle steps
pub mod FoundLaws
-- small trees
pub mod TrimExamples
