-- How this crate is proved.
--
-- Carried by `FirstWrong.faulty`: how far the lines of bytes are right, for any kind of text.
--
-- `text_lines` has what texts of lines share. `FirstWrong.faulty` tells the right lines of bytes that are no text of a kind (`TextKind` of
-- `calculus`): from "these lines begin one", "no right next line" and "not done here". `wrong-behind` makes it the first wrong line with
-- its cause, `line-missing` at a line that each text of the kind has, as those of the head are. `StagedLines` goes on from there for texts
-- whose lines after the head are values in an order that stages tell (`Kind`): `wrong-line` where the next line may not stand at the stage,
-- `wrong-end` where the text stops. `HeadLaws` has one law for each exit of `read_head`; `LineFeeds` says
-- of names, terms, formulas, labels and the head that no line feed stands in them, `WholeLines` that lines are then found again
-- (`lines-back`).

pub mod LineFeeds
pub mod WholeLines
pub mod FirstWrong
pub mod PartLaws
pub mod HeadLaws
pub mod HeadFaults
pub mod StagedLines
