-- How this crate is proved.
--
-- Carried by `SearchLaws.stands-none`: behind the last list of lengths the system has no bounded solution.
--
-- - *What is kept.* No clause quantifies over sets of cells. `IsLater old new` says what each step keeps of a store: sorts, bindings and
--   built strings stay, no unbound string is added, and one that occurs in an old cell occurred there before. `KeepsRight` says beside it
--   that cells stay built right, for the search alone. It is transitive (`LaterLaws.later-both`) and holds for new cells (`later-added`,
--   `later-grown`), for bindings to cells in which no unbound string occurs (`later-targets`, `later-unified`), and for a string that gets
--   its length (`later-given`). So "no unbound string occurs in the system" is kept (`open-later`) once all strings are built
--   (`open-given`).
-- - *One list of lengths.* Strings get their lengths by binding them to new marks (`LengthLaws`: `given-bound`, `later-given`,
--   `never-given`; the loop keeps `IsGivenTo`). Labels are then lists of marks (`FlatLaws` of `term_unify`), made equal mark by mark
--   (`IsSameTo`, `AreMadeTo`); cells that are `AreDifferent` differ in some solution (`different-cells`). Meeting a demand ends since an
--   equation that did not hold binds a variable (`MeetingLaws.fewer-open`). `TryingLaws` has one law for each exit.
-- - *All lists.* An odometer (`next_lengths`) is specified by the order alone: `IsNext` says that no list within the range lies between
--   (`LengthListLaws`: `raised-between`, `next-sum`, `last-sum`). `solve` keeps `StandsAt`: no list before this one has a solution, and a
--   rising list of early ones ends here, one step each; each exit is a law of `SearchLaws`.
-- - *The order of label beginnings.* Nodes are beginnings of labels; the order knows of two nodes that the value of one begins that of the
--   other, strictly or not. Relations are rows of bits, a table for each of them: `TableHolds` says of each bit that is set that the two
--   nodes are so related, and reading and writing go by words (`or_word`, `TableLaws`), total both, so no invariant on sizes is needed.
--   `add` draws all chains at once; what is below a node and its children are hints. One invariant: `Keeps nodes before after` (`KeepsIn`
--   with the store), labels of which what was known held keep what is known. A contradiction keeps nothing, so "refuted" has no clause of
--   its own. `OrderLaws`: lists (`begins-both`, `begins-shorter`, `begins-equal`) and rules (`joined-related`, `gap-above`, `gap-below`,
--   `nodes-same`, `marks-other`); `GrowingLaws`: nodes of labels (`reached-next`, `asked-equation`, `step-related`, `equation-named`).
--   Nothing is promised of how much it finds; the lengths that it proposes are tested before they are handed on (`TriedLaws`).
--   `is_refuted`, which the search asks, makes as many choices as it is told: its clause is that of `choose`, whose `Refutes` meets what
--   `settled` holds.
-- - *What `is_refuted` leaves out.* In S4 and intuitionistic logic a string of any length that stands once in all labels, at the end of
--   its label, asks nothing but that what is before it begins the other label. So such strings are cut off before the tree is made: one
--   pair in place of two, and fewer nodes. That the first items of a label begin a label which is equal to it needs no reason for the cut
--   (`asked-begin`), so nothing is promised of the counts (`Uses`). `solve` keeps all nodes, since its proposal needs a length for each
--   string.
-- - *A new node.* Its relations to the nodes above it are set along its parents (`add_above`), and `join_row` passes over a row that knows
--   what it would be told: both are quicker than drawing chains, and promise no more.
-- - *Choices.* Where two nodes begin one label and the first is at most one mark longer than its parent, the second begins the parent or
--   the first begins the second (`gap-either`). `choose` closes such open gaps one way or the other: first in a copy; where that is
--   refuted, in the order itself. Its clause is `Refutes` alone, so an order that is not refuted may be the copy, and serves the proposal.
--   Which gap is closed first (`Gaps`) is free: the clause of `open_gap` says what holds of any gap. By the order of nodes systems are
--   refuted with the fewest choices; where the lengths do not serve, `solve_by_order` asks once more and closes gaps of marks of one
--   position first. Copies of a clause whose last marks have to be the same have the same strings, which the order does not know; a gap
--   with another mark between theirs draws them apart.
-- - *Homes.* `demanded_tree` adds the labels that the demand forces to be beginnings (`Demand::homes`). Their marks are new cells, so the
--   equations are asked first, over the store without them, and nothing has to be said of the system in the larger store (`tree-larger`,
--   `adds-forth`). Strings in homes need not be the system's: they are read as in S4, where a string has any length (`any-steps`).
-- - *Pairs told apart.* Where proposed lengths make goals of a pair the same, the tree is made again with that pair (`solve_apart`). Where
--   the bindings make its atoms the same (`HaveSameAtom`), each solution gives its nodes different labels (`pair-apart`, `ComeApart`), so
--   an order that knows them equal is refuted (`refute_equal`). `told_apart` makes one label shorter, or else what is before its last
--   item. It promises only that the order is not refuted, so no law is needed: the lengths are tried.
-- - *By the order first.* The step of the first list is used before the order is asked: the least list is always early, so `solve` may
--   answer by a refutation or by proposed lengths at that price (`solve_by_order`), and the loop over all lists begins where it would have
--   begun.
-- - A demand's test `holds_for` is a function to booleans, and clauses say `Asks (holds_for d)`: an equation of tests is in `Type 0`, one
--   of relations is not, so "no call changes it" is an equation. `next` promises `AddsBuilt`.

pub mod ListItems
pub mod LaterLaws
pub mod LengthLaws
pub mod EqualLaws
pub mod SameLaws
pub mod MeetingLaws
pub mod TryingLaws
pub mod LengthListLaws
pub mod SearchLaws
pub mod OrderLaws
pub mod TableLaws
pub mod GrowingLaws
pub mod ApartLaws
pub mod TriedLaws
