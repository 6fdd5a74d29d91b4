-- How this crate is proved.
--
-- Carried by `ByNumber.Promises.the-numbering` and `the-agenda`: names sorted by the depth of what is inside them, and turns once each in
-- their order, are a numbering and an agenda; and by `ByNumber.SetLaws` (a set by one test of equality shows what is kept by another,
-- where both say the same). The laws of turns and names are over trees; `ByNumber` has those of numbers.
--
-- - The turns of an instance depend on its sides and values alone: `walk` follows them without labels, and `closed-turns`, `closed-lists`
--   say that for a closed tableau these are the turns. Repetitions are dropped; `KeepingLaws` is for any test of equality.
-- - `walk` carries parts with their sizes (`Part` of `tableau_core`), so nothing is counted on the way; `WalkStep.left-by` is one step of
--   it, for any walk below.
-- - `PlaceLaws.places-along`: the list of positions in preorder has at p what stands at the end of the way to p. So a turn's parent is the
--   position above with the values before its own (`ParentLaws.tells-parents`).
-- - `ByNumber.Promises` has one law for each clause of `name`; `Coming` (`parent-before`, `waits-before`, `can-come`) what a converter
--   takes from them.
-- - *Turns* are collected as `Reached`, a position with the values taken on the way to it, all of which name lists of the tableau's table:
--   so nothing grows while turns are walked, kept, sorted and found again. `reached_by` makes each value normal; in a table without
--   repeats normal values are equal exactly where they stand for the same (`ReachedLaws.turn-kept`, `turn-found`), so an `IndexSet` finds
--   turns, and its keys are those of `Found.find_in` (`the_keys`).
-- - *Order.* `depths` goes over the table once. Turns are sorted by depth, number of values and position (`OrderLaws.sorted-arranged`),
--   names by the depth of what is inside them (`sorted-names`).
-- - *Names inside* (`inside.rt`): names that were found, and a set of lists that are ahead, of which the highest is looked at first, as
--   for allowed terms. `InsideLaws.Sees` says of each step which names are seen besides; all is said by tests (`has`), so steps join by
--   `||`.
-- - *Homes.* The characters of a home are looked at alone: what is inside them is inside the values of their eigenvariable
--   (`HomeLaws.inside-label`), and so was found already (`names-gathered`, `waits-for`).
-- - *Terms by numbers* (`terms.rt`). Each list of the names' table is kept once in a `TermTable`, under its own number, with the numbers
--   of names in place of names (`AreNumbered`; `TermLaws.list-numbered` adds one). So a ground term is a term over this table and is made
--   by one look at its symbol: `fun-numbered`, and `constant-numbered` where it names no list before the one that it stands in, which is
--   the empty list.
-- - *Lists without names* (`holding.rt`) are passed over when names are sought: of each list is told whether it may hold one, and false
--   only where it holds none (`AreTold`; `HoldingLaws.told-push`, `bare-seen`). Nothing is promised of how many are told.
-- - *The table of the names* (`naming.rt`) begins as a copy of the tableau's and grows by the lists of the turns and by those that
--   characters of homes have; `GrowLaws.keeps`: names and turns so far stay. The number of a name is its place in the set of names, from 1
--   (`NumberPlaces.place-some`, `NumberLaws.number-some`). `Named::mark_in` asks by a list of a table that has grown further: a list
--   behind those of the names' table is that of no name, since lists stand once (`NumberLaws.no-number`).

pub mod Collecting
pub mod KeepingLaws
pub mod Arranging
pub mod WalkByShape
pub mod WalkTurns
pub mod WalkSmall
pub mod WordLaws
pub mod PlaceLaws
pub mod MentionLaws
pub mod NumberOrder
pub mod GuideLaws
pub mod ParentLaws
pub mod Promises
pub mod Coming
pub mod NumberPlaces
pub mod ByNumber
