-- How this crate is proved.
--
-- Carried by `FormulaTexts.formulas-apart`: a text is that of one formula.
--
-- - Formulas apart: `TermTexts` (`key`: the byte by which a text is told apart), `AtomTexts` (`atoms-split`; `equation-apart`: an equation
--   against a formula of two parts), `FormulaTexts` (`formula-split`, `formulas-apart`: most of the 81 pairs go by `same-code`).
-- - Writers: `Extending` (`Extends-*`), so that an `Err` cuts back to what was there; `Knowing` (what fits is known); `Equations`;
--   `RowsWritten`: a row is written item by item, with the arguments that are still to come of each open term (`IsWriting`).
-- - Readers keep the text that is consumed as an invariant. `Numbers`: parse, print again and compare; std's `parse-decimal` gives
--   completeness. `Quoted`, `Marks`, `Frames` and `Heads`: that nothing else can stand there is one induction, used only where the answer
--   is that there is none. `Passing.error-passed`: what leaves by a `?` is what the call inside answered, so its clause on `None` serves.
-- - *Terms in rows.* `row_of` writes a term with each symbol before its arguments, and `terms_in` reads rows from their end;
--   `RowLaws.terms-row` leads back, so a row tells its term (`row-alone`), and its leaves are those of the term (`any-row`).
--
-- `formula_text::read_term` reads the rest of a text from its beginning (`at-place` leads back) by one loop with a stack of open terms:
-- where the name stands in the text, the place of the symbol in the row, the arguments so far. `AreOpen` says of which frames (name and
-- arguments that are whole) these are, and the row is then theirs (`open_rows`, with a fixed item where a symbol is still to come).
-- `RowsRead` has one law for each step (`opened`, `argument`, `closed`) and for each exit without a term (`none-begun`, `none-follower`,
-- `none-end`, `none-function`); they rest on the laws on the text of frames (`Frames`, `Closings`). It answers the row; `term_of` makes a
-- tree of a row, from its end (`StandingLaws`: the terms of a stack, the last one first).

pub mod Extending
pub mod Knowing
pub mod Rests
pub mod Equations
pub mod Numbers
pub mod Quoted
pub mod Places
pub mod Marks
pub mod Frames
pub mod Heads
pub mod Closings
pub mod Apart
pub mod Passing
pub mod TermTexts
pub mod AtomTexts
pub mod FormulaTexts
pub mod RowLaws
pub mod RowsRead
pub mod StandingLaws
pub mod RowsWritten
