-- How this crate is proved.
--
-- Carried by `read` and `write`: what is read is what the text states (`IsMovesText`), a fault is that of the first wrong line
-- (`IsFirstWrong`), and what is written states the moves.
--
-- A text of ground values is one of *items*: a term, a character, a string, or a whole list of values (`Items.Item`). `Made S h xs i` says
-- that the item i has the head h before its list xs: the name of a function symbol, the number of a spare constant, of an eigenvariable or
-- of a character, or nothing. `ItemLaws` has the texts of lists (`args-list`, `marks-list`, `values-list`) and that head and list tell the
-- item (`made-one`).
--
-- How an item begins: `TokenLaws.token-one` (bytes begin with one token), and for each token that is read what the item before a comma or
-- a closing bracket must be (`args-begun`, `constant-begun`, `eigen-begun`, `common-begun`, `own-begun`, ..), or that there is none
-- (`no-token`, `no-constant`, `no-own`, ..).
--
-- `PointLaws` says where reading may stand (`Points.Point`: before an item, behind one, or behind an opening bracket, with the lists that
-- are open) and what one point leads to: `Leads S p q` says that the text is the same, that what can be written stays so, and that a text
-- that goes on rightly at p does at q. So no list has to be split again behind what was read: that each right text goes on rightly is
-- carried along, and where a point has no step, no right text stands there (`NoneFrom`). `comma`, `close`, `leaf`, `open-list`, `enter`
-- and `empty` are the steps; `no-fit`, `no-follower`, `no-made`, `none-ahead` and `no-empty` the faults; `begins` and `ends` lead to and
-- from the whole text. `StepLaws` says the same of the lists that the program keeps by a table, which may grow between steps
-- (`OpenLaws.frames-grown`).
--
-- `PieceLaws` and `WriteLaws` say of writing that a first part of a piece was written and the rest put on the stack (`Wrote`), and that
-- the work that is left falls (`work-falls`). `args-open`, `args-next`, `args-end` and their like for characters and values are the steps
-- at a list: its opening bracket, a comma, its closing bracket. `wrote-behind` puts what was written before in front.
--
-- The values of what was read are told by the table, which grows while later lines are read: readers promise `IsGrown` and that the values
-- are normal (`AreNormalValues`, `IsNormalMove`), and `LineLaws.line-step` keeps what all lines so far state (`IsReadBy`). A reader that
-- returns before it touches the table shows `IsGrown` of the table and itself, for which its length must be known (`StepLaws.grown-same`):
-- hence `let _called_for_its_bound = table.len();` at its head.
--
-- `MoveKinds.is-kind` makes the text of a tableau one of staged lines (`text_lines`, `StagedLines`): what a line spells is unique by the
-- law of the whole text, of which each line alone is an instance. `MoveFeeds.moves-feed` says that no line has a line feed, `MoveFaults`
-- leads from a line that cannot be read to the fault of the whole text, `LineLaws.line-step` and `ReadLaws` say so of the loop over the
-- lines.

pub mod ItemLaws
pub mod TokenLaws
pub mod TokenSteps
pub mod PointLaws
pub mod OpenLaws
pub mod PushLaws
pub mod CloseLaws
pub mod StepLaws
pub mod ValuesLaws
pub mod PieceLaws
pub mod WriteLaws
pub mod MovesText
pub mod MoveFeeds
pub mod MoveKinds
pub mod MoveFaults
pub mod SideLaws
pub mod LineLaws
pub mod ReadLaws
