-- How this crate is proved.
--
-- Carried by `BuiltLaws.whole-built` and `StackLaws.whole-names`: the tableau that is read off has the choices of the tree, and is the one
-- that each solution with own spares gives.
--
-- - *Reading.* `Grounds` has what stands for each cell, by the end of its bindings, as numbers of a table, and each is made once. A cell
--   waits on a stack until what it is made of is there (`make_top`): its parts, or the items of the label at which its spare stands
--   (`needs`). These functions ask for a solution with own spares at the homes that were found (`HasSparesAt`), which `answer` has from
--   `HasOwnTableau` (`FoundLaws.own-spares`). By it a value is larger than those that it is made of (`WaitingLaws.needs-lighter`), so cells
--   that wait are ever lighter (`WaitBySpares`), and a part for which one waits was not asked for before (`part-new`). So each cell is
--   asked for once and the loop ends, all that was asked for is made when none waits any more (`last-made`), and no value is made up. What
--   is made is said of all solutions by own spares at the homes that were found (`AreSparesAt`): it is normal in the table, which a longer
--   table keeps, and is the cell's value (`IsReading`; `PartLaws` for what a cell needs, `MakingLaws` for the loops, `GroundLaws` for
--   values: `made_of` is the value by what is found at the end, `value-there` that each such solution gives it). So the terms, values and
--   labels of literals are those that the calculus has by these solutions (`ReadOffLaws`).
-- - *Homes.* The first gamma term that holds a variable is found by marking the leaves of the terms, in the order of the gamma terms; a
--   leaf that was marked keeps its number (`homes_of`, `HeldLaws`). So `AreSparesAt` follows from `AreOwnSpares .. σ (λ v. v)`. The demand
--   of the domains looks at the same leaves while the system is solved.
-- - *Closings* are read from the last choice to the first: what is on the stack has the choices of the steps that were read (`StackLaws`:
--   `names-reduce`, `names-extend`, `behind-next`), so the tableau has the choices of the tree (`whole-names`). That a tree begins with its
--   start and has no other follows from a ground solution, which each state has (`stands-started`).

-- the system of the tree
pub mod GatheringLaws
-- reading off the tableau
pub mod ReadingLaws
pub mod GroundLaws
pub mod PartLaws
pub mod MakingLaws
pub mod WaitingLaws
pub mod HeldLaws
pub mod ReadOffLaws
pub mod StackLaws
pub mod BuiltLaws
-- solving labels
pub mod SolvingLaws
