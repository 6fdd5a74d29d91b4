-- How this crate is proved.
--
-- Carried by `Loop.run-kept`: each move of the loop keeps `IsRun`, the state of a conversion that `conversion_theory` leads to its end.
--
-- `Run` has the steps, the branch at hand, what is ahead of it, and the second branches that wait. One that waits is a prefix of the one
-- at hand with a node of its own, so going back is `truncate`. `State` says what a run stands for, `Moves` what the loop does to it;
-- `MovingOn.moves-kept`: each move keeps `IsRun` and lowers `room_of`. `MoveLaws` has one law for each exit of the loop's functions, over
-- an equation on the state. The table of nodes in `Branch` and the one of literals are hints that their callers check, so no invariant
-- speaks of them. A fork of the turn ahead sends both branches to their parts; a fork of another turn leaves both with what was ahead.
-- Closing early is always right.
--
-- Values are numbers of a table: the laws of this are in `ByNumber`, and are carried by `TakenLaws.takes-all` (what a turn takes at a node
-- is all that it has, so what a new node has taken has the number of the turn's values) and `StandLaws.now-stands` (where an end closes at
-- once, two nodes make an axiom as ground literals).
--
-- Views take the lists of a table: nodes name those of the names' table (`the_lists`), closings those of the tableau's (`the_table`). The
-- state, its moves and their laws are over trees.
--
-- - *Nodes.* A node is looked up by its position and the number of the values taken on the way to it, which are those of the turn's
--   parent. What is found is checked, and where it fails all nodes are gone over, so no invariant speaks of the table of places. Nodes of
--   a branch share their labels and terms by `Rc`. The positions of a node have numbers of 32 bits (`within` of `Node`): those of a
--   component are among those of the part, and what is taken on the way leaves the position.
-- - *Past the modal part.* `SpotLaws.nu-spot`, `PastLaws.past-nu`: the spot of a nu step by its new label, which `with_label` puts.
-- - *Homes.* The characters of an eigenvariable's home come with slices of values; their list is looked up in a copy of the table, and the
--   number that it gives is checked (`MadeNames.mark-by`); where it fails all names are gone over (`none-by`, `found-by`).
-- - *Turns.* `MadeLaws.made-same`: what is made past the modal part with all values of the turn taken is what the turn makes, since
--   `taken_after` are all of them. What a call promises by the table that the names lend it is carried over to their lists by `TurnsAt`;
--   its `takes-by` is what `make` asks, from `takes-all`.
-- - *Axioms* are told as ground literals: `are_alike` goes along two atoms under what is put for their variables, and compares numbers at
--   variables (`AlikeLaws`). `PairLaws.seen-axiom`: the entries of such a pair connect, as each item of a branch fits. `PairsAt` leads
--   from the lent table to the lists of the names. The table of literals numbers atoms in a copy of the names' table; it gives hints
--   alone.
-- - *Terms of steps* are not made: `Named::term` of `name_order` tells which term over the table of the conversion one is, and all steps
--   share that table.
-- - *Ends.* How many instances the closing of each instance has is told once (`sizes_of`), and stands in a row for ends as their instances do:
--   a fork's second part has its place behind those of the first, without a walk through them (`SizesAhead.row-second`).

pub mod TurnPlaces
pub mod WaitingWays
pub mod PartsAhead
pub mod SizesAhead
pub mod Moving
pub mod MovingOn
pub mod Numbers
pub mod PairLaws
pub mod AtomLaws
pub mod ComingLaws
pub mod Converted
pub mod EndsAhead
pub mod StateLaws
pub mod AwaitedLaws
pub mod Loop
pub mod MoveLaws
pub mod OrderLaws
pub mod ByNumber
