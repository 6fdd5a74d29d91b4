-- How this crate is proved.
--
-- Carried by `text-unique` of `calculus`: a text is that of one derivation.
--
-- - `FormulaLines.formula-unique_in`: the formula line of a text of either version is that of one formula.
-- - Writers: `WritingLaws.text-written`: the lines that are written are those of the version; `TermWritingLaws`: a term over a table is
--   written up to the name of the next term, with what comes behind it on a stack, and `Wrote` says that what is written and what is left
--   are the text (`wrote-open` where arguments open, `goes-close` and `goes-further` behind a term). Brackets that close behind one
--   another are one piece of the stack (`before-close`).
-- - `parse` is `derivation_of` behind `read`.
--
-- `derivation_text::read`: lines after the head are values of one type (`BodyLine`) with one law that they determine their values
-- (`BodyLaws.body_line-unique`); their order is one function, `stage_after`. Each reader of a part or a line is exact. The loop keeps
-- `IsReadTo`: the names and steps so far are those of the lines so far (`printable-so_far`: written lines in order begin a printable
-- derivation). `HeadFaults` tells the first wrong line in the head, of either version, `BodyFaults` one behind it.
--
-- *Both versions are read into numbers.* `NumberingLaws.put-line`: a line of version 1 more, put behind a derivation with its numbers, is
-- the longer derivation with its numbers, since a label or a term gets the next number where it comes first (`OnceLaws.once-end`,
-- `number-kept`). So the loop of version 1 keeps `NumberedSteps.IsEnteredTo`: what is stated is read so far, and its numbers are in order.
-- The loop of version 2 keeps `IsPutTo`: its lines are those of numbers that can be written (`NumberedBodyLaws.goes-more`,
-- `NumberedStages.written-so_far`, and back by `NumberedEnds`). `NumberedKind` says that this is a kind of text for `StagedLines`, and
-- `NumberedCauses.cause-at_part` tells the cause by the stage. `OrderLaws.in-order`: numbers that come in order, of lists in which nothing
-- comes twice, are those of the derivation that they state; where the code does not find them in order, it numbers anew and compares, and
-- `DifferenceLaws.lines-differ` says that the line of the first byte that differs is the first line that differs. `VersionJudgementLaws`
-- of `calculus` tells that there is at most one fault (`FaultLaws.one-fault`).
--
-- *Tables.* `PlaceLaws`: a list of places with the first number of each place (`first-end`); the items at these places of a table that has
-- each item once have the numbers of their places (`told-of`), so `enter` answers `number_in` (`entered-old`, `entered-new`). `TermKeys`:
-- a set of rows has each term once. `AmongLaws`: numbers stay among those that are listed as lists grow. `RenumberingLaws`: the new number
-- of each old one is kept from where its item comes first (`new-put`), and what is known changes nothing (`entered-known`).

pub mod Items
pub mod Parts
pub mod Args
pub mod PlainLaws
pub mod TermWritingLaws
pub mod Printable
pub mod BodyLaws
pub mod LineFeeds
pub mod BodyFaults
pub mod HeadFaults
pub mod BodySteps
pub mod Endings
pub mod FormulaLines
pub mod OnceLaws
pub mod PlaceLaws
pub mod AmongLaws
mod RenumberingLaws
pub mod NumberingLaws
pub mod OrderLaws
pub mod NumberedFeeds
pub mod NumberedBodyLaws
pub mod NumberedStages
pub mod NumberedEnds
pub mod NumberedOne
pub mod NumberedKind
pub mod NumberedCauses
pub mod NumberedArgs
pub mod DifferenceLaws
pub mod StatedLaws
pub mod NumberedSteps
pub mod GreatestLaws
pub mod GrowingLaws
pub mod TermKeys
pub mod WritingLaws
pub mod NumberedLines
pub mod FaultLaws
pub mod EnteredLaws
