-- How this crate is proved.
--
-- Carried by `ConditionLaws.leaf-forced` (an equation that one leaf needs is forced by the condition) and `OwnLaws.own-met` (where none is
-- left, own spares meet it).
--
-- - `IsOnWay`: the rest of the way leads from the label reached to the home of an eigenvariable, by each solution (`WayLaws`); the loop of
--   `home` follows it by cells. `IsLooking` is closed under parts (`LeafLaws`).
-- - *Built right.* The marks that `home` adds are built right where the eigenvariable is: its values fit the way to its position, so each
--   pi position that they pass takes a mark named by the values so far. `IsRightWay` (`RightWays` of `search_theory`) follows them: the
--   nodes before (`Stands` of `calculus`), the values taken, and that the rest fits; `node-takes` says that what a position takes does not
--   depend on what stands behind, `right-next` goes on past a position, and `right-mark` is the mark (`mark-proper` of `calculus`).
--   `RightLaws`: `way-past` finds the ways to all places below the next position in the one that `LeadsOn` tells, and `right-further` and
--   `right-last` follow the loop. `AskingLaws`: an equation names no cell below those of its gamma term. The equation that nothing solves
--   has a mark of position 0, which need not be a pi position: so the clause asks for a solution (`right-never`).
-- - The part of a label that a home is to equal is `IsCompared`: it is forced where the home allows the label, and enough where it holds
--   already, so `are_same_labels` decides whether to give the equation (`ConditionLaws`). Where there is none to give, the marks of the
--   home are undone, and what holds in the store with marks holds without them (`met-before`). All loops speak of the first store.
-- - *Homes.* `homes` adds marks and keeps them, so `AddsHomes` says of a list that grows with the store that the homes added are labels
--   and beginnings by each solution of which M holds; M falls from the whole condition (`term-added`) to a gamma term (`leaf-added`) to a
--   leaf (`home-added`, `HomeListLaws`). With varying domains a home is the whole label.
-- - *Varying domains without a constant.* A `Standing` has the leaves of a gamma term and the marks of its label; the home of a variable
--   is by the first standing with that leaf (`home_marks`, `tells-homes`). A constant among leaves and a cell that needs itself by way of
--   homes give an equation that nothing solves, one that is forced by `⊥` (`never-equal`); two labels whose terms share a leaf give theirs
--   (`label-forced`). `HasOwnSpares` is what is left, and `own-met` leads to own spares.
-- - *Cycles by rounds.* A round gives each cell the least rank above those of what its end needs (`IsRound`). A round that changes nothing
--   shows that there is no cycle, since along each need the rank falls or, at a binding, stays while the rank of the store falls
--   (`round-ranks`). After i rounds what is below i stays, and no rank is above that of any ranking (`IsRanking`); so where there is no
--   cycle, a round changes nothing once there were more rounds than cells (`ranking-cycle`). No chain is followed and nothing is counted.

pub mod ConstantLaws
pub mod WayLaws
pub mod HomeSteps
pub mod LeafLaws
pub mod FirstLaws
pub mod ConditionLaws
pub mod StandingLaws
pub mod RankingLaws
pub mod OwnLaws
pub mod HomeListLaws
pub mod RightLaws
pub mod AskingLaws
