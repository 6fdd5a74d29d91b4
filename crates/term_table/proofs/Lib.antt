-- How this crate is proved.
--
-- Carried by `TableLaws.pushed-is` and `read-is`: a list that is added stands under the next number, and a list that is read is that of
-- its terms.
--
-- The terms of a list name lists before it (`AreBelow`), so `lists_from` gives what each list stands for by recursion on the lists, and a
-- term stays what it is when lists are added (`term-stays`). `WalkLaws`: what was put of a row, and the rows of what is on the stack, are
-- the row of the term, however far a walk is (`symbol-put`, `walk-goes`); each step leaves one item less (`symbol-less`, `walk-falls`).

pub mod TableLaws
pub mod WalkLaws
