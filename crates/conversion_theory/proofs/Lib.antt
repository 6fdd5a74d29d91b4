-- How this crate is proved: every closed tableau has a derivation.
--
-- Carried by `MadeLaws.made-right`: what a turn makes on a branch applies, can be printed and leaves branches. `sequent_convert` follows
-- these laws move by move; that every closed tableau, in every setting, has a derivation that can be printed is said for the reader once
-- more, turn by turn in the order of an agenda: `ForReaders.converts`.
--
-- A turn is a position that an instance reaches with the values taken on the way to it; instances that share a turn share one step.
--
-- - *Numbers.* `IsNumbering` (`Numbering`): each name of the tableau once, each after those inside it. `numbering-by`: names sorted by any
--   measure that is smaller inside are such a list, as by the depth of what is inside them (`DepthAgenda.numbering-by_depth`);
--   `numbers-tell`. One counter serves all sorts of names. `NumberedLaws`: labels, steps and homes over numbers are those over trees.
-- - *Agenda.* `AgendaLaws.agenda-by`: turns once each, in any order in which parents and those that introduce a name come first, are an
--   agenda. `DepthAgenda.agenda-by_depth`: that by the depth of their values, their number and their position is one.
--   `SortedTurns.depth_order-rising`: neighbours in order are enough. `HomeMarks.each-label`: what holds of the marks in the values and of
--   those made of beginnings of them holds of the marks of a home. `WorkLaws`: position and values determine the spot; a component is
--   worked on only by turns whose parent is the turn of the whole.
-- - *A branch.* `Item`, `made` (`Branches`): what a turn does on an item, computed. `NextLaws` has the next turn shape by shape,
--   `FreshLaws` says that what it introduces stands nowhere. `RunLaws`: `IsRunning` and one law for each thing that a run does. `EndLaws`:
--   a branch with all turns done has an axiom.
-- - *Led by the tableau.* An open branch has a way: the turns ahead, a part of one instance in preorder, and the ends of the literals
--   among them. `LeadLaws` and `LeadEnds` have one law for each thing that a converter does that is led so, `LoopMeasures` that something
--   is ahead of an open branch; `LeadingLaws`, `SegmentLaws`, `TaskLaws`, `SpanLaws`, `FollowLaws`, `PartLaws` are what they rest on.

-- names, turns and their order
pub mod HitLaws
pub mod BelowLaws
pub mod HomeMarks
pub mod NameLaws
pub mod DepthLaws
pub mod PlaceLaws
pub mod AgendaLaws
pub mod NumberLaws
pub mod DepthAgenda
pub mod SortedTurns
pub mod NumberedLaws
-- branches
pub mod WorkLaws
pub mod ClosedLaws
pub mod PutLaws
pub mod ExpandLaws
pub mod BranchLaws
pub mod FreshLaws
pub mod UseLaws
pub mod NextLaws
pub mod EndLaws
pub mod WrittenLaws
pub mod WholeLaws
-- a derivation that is made step by step
pub mod OpenLaws
-- conversion that is led by its tableau
pub mod MadeLaws
pub mod RunLaws
pub mod ShortLaws
pub mod TaskLaws
pub mod SpanLaws
pub mod FollowLaws
pub mod PartLaws
pub mod LedLaws
pub mod SegmentLaws
pub mod LeadLaws
pub mod LeadEnds
pub mod LeadingLaws
pub mod LoopLaws
pub mod LoopMeasures
pub mod AheadLaws
-- ==== laws that are here for the reader

mod ForReaders
-- ==== examples that compute

mod TableauExamples
mod ConversionExamples
