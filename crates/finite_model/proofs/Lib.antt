-- How this crate is proved.
--
-- Carried by `SlotFaults` and `EntryLaws`: behind the head a text is a list of entries, one for each slot, which the problem and the sizes
-- decide; entries state a structure with their lines, and each structure that can be stated has a text of entries. So one function reads
-- all kinds of lines, and each fault is that no entry of the next slot stands there.
--
-- - *Truth.* `SeekLaws` and `TruthArms` lead from looking for a value, up to the first item that has it, to truth by steps (`told_at`);
--   `FormulaArms` says what a formula of the program is at each form. `Outcomes.root-outcome` gives truth, cost and steps at the root,
--   `outcome-refutes` and `outcome-never` that no derivation derives what is false there.
-- - *Closed terms* become variables of elements, which stand behind those that are bound: `ShortLaws` says for each form of a formula that
--   the one with such variables tells the same, and `root-told` that it does so at the root.
-- - *Tables.* `ValueLaws.far-place`: a place past all numbers stays past each table. `TupleLaws.tuples-at`: the places of tuples stand in
--   their order; `places-stay`: where one more element changes nothing, more change nothing, so a table of one element is gone through at
--   once. `FunctionLaws` (`kept-on`, `kept-false`, `kept-end`) goes by these places from tuple to tuple, whether a function keeps a
--   domain. `PersistenceLaws.kept-rows`: rows are compared digit by digit, by `all-places`.
-- - *Reading.* By `FirstWrong.faulty` of `text_lines` bytes are no text where the lines that are read are those of some structure, and
--   what follows is the next line of none. `HeadFaults` and `SlotFaults` (`slot-fault`, `end-fault`, `after-fault`) say it of each line;
--   `EntryReading` goes from slot to slot, by those that are left (`AreLeft`), `NumberLaws` from number to number, `MakingLaws` from symbol
--   to symbol, `SizeLaws` from argument to argument.
-- - *Conditions.* `WorldChecks` and `CheckLaws` go from world to world and from symbol to symbol over the first condition that is broken
--   (`first_broken`); `asked-first` to `asked-none` put the five groups together, by what the code knows of the setting, the symbols and
--   the lines. `ReadingOutcomes` says that what is answered is the one judgement.

pub mod SeekLaws
pub mod ValueLaws
pub mod ArgLaws
pub mod EnvLaws
pub mod FormulaArms
pub mod TruthArms
pub mod ShortLaws
pub mod Outcomes
pub mod NumberLaws
pub mod RiseLaws
pub mod FormLaws
pub mod SizeLaws
pub mod SlotLaws
pub mod NextSlots
pub mod EntryLaws
pub mod Feeds
pub mod TextFaults
pub mod SlotFaults
pub mod SlotReading
pub mod HeadFaults
pub mod HeadReading
pub mod EntryReading
pub mod MakingLaws
pub mod ReadingOutcomes
pub mod ConditionLaws
pub mod WorldChecks
pub mod TupleLaws
pub mod FunctionLaws
pub mod RowLaws
pub mod PersistenceLaws
pub mod CheckLaws
