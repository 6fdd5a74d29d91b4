-- How this crate is proved.
--
-- Carried by `SearchedLaws.searched-end` for one limit and `DeepeningLaws.deepened-derived`, `deepened-no_tableau` and `deepened-exhausted`
-- for all: what `search_theory` says of an enumeration, said of the loop.
--
-- - *Points.* `IsPoint`: cutting back gives the state in which the point was made; `HasUntried`: its choices to come. `ArePointsFrom` goes
--   over the reversed stack, so what is pushed and popped is a head. `StackedLaws` keeps points and goes back to one; `TryingLaws` and
--   `VisitLaws` have one lemma for each exit of `try_next` and of `visit`. The last point is changed in its place: `last-read` tells it
--   from those below, `set-end` and `cut-end` say what the stack is after the change and where it goes.
-- - *Jumps back.* `IsStack` is `ArePointsFrom` with `AreSolvedBehind` of the theory for the points as `traced` sees them. Each point keeps
--   the lowest number of a goal that was the leftmost open one since it was made (`Point::lowest`, `see`); the number of a later point is
--   handed down when that point goes (`lower`, `SeeMore`). The last point has seen the goal that is visited (`HasSeen`), or 0 where no goal
--   is open: then it claims nothing more. So lists that fail by a goal are to say which one: `HasLost` has a goal that cannot be closed and
--   its number, at or behind the leftmost open goal or among the goals that came last (`GivenUpLaws`); it is what `is_stuck`,
--   `is_regular_from` and a refused choice promise (`IsGivenUp`); an extension that is set aside has no tree yet, and promises what follows
--   of it (`IsFruitless`: no list that closes the goal of a point begins with it). Lists that fail for the tree as a whole (labels, a
--   repeated goal that `is_found_irregular` finds) lower the number to 0 (`stack-cleared`). `StandingLaws` has one law for each event on
--   the stack (`stack-pushed`, `stack-lost`, `stack-refused`, `stack-seeing`), `JumpingLaws` those of going back (`spent-down`,
--   `down-jumped`, `handed-down`). Where all choices of a point were tried (`IsSpentAt`), `jump` drops each earlier point at which the goal
--   stood and whose store binds all bound cells of the goal and of its path (`BindingKept.cannot-back`: these cells and their parts are
--   then the same).
-- - *Irregular trees.* A goal that was new can become the same as one above it by a later binding. So behind a number of choices that grows
--   with the tree (`is_found_irregular`) all goals of the tree are looked at where the search comes back to a point. A repeated goal makes
--   the point's state a dead end, and with it each list behind it (`DeadLaws.dead-behind`, `search-dead_behind`), so the point is dropped
--   whole (`TryingLaws.dead-at`). While it is not known that the limit is left, `visit` looks at all goals of the leftmost open goal's path (`repeated_early`): a
--   list with a repeated one is dead, whatever is known of the limit, and the last point sees the number of that goal, which lies above the
--   leftmost open one (`StandingLaws.stack-dropped`, `VisitLaws.visit-repeated`).
-- - *How far the search is.* `IsSearched`, `IsExploring`, `IsVisiting` carry `IsSearch` of the theory, and that steps were used for what is
--   spent; so each exit is a law of `SearchSteps` or `EarlyLaws`. Contracts name the program's values once for each moment (`the_moment`)
--   and say what is known at one and what that leads to at the next (`Moments`: `Holds`, `Leads`); these words compute to the states, so no
--   law speaks of them. `SearchedLaws` goes over the clauses, `DeepeningLaws` over the limits.
-- - *It ends.* `work_left`: the steps left times the greatest weight of a point, and the weights of those on the stack; `Point::next` makes
--   one lighter (`falls`), a pushed one costs a step.
-- - *Without return to solved goals.* One stack of points, one for each goal above the leftmost open one: it is cut to that goal's depth
--   before the goal's own point is pushed, and that is all of the cut (`CuttingLaws.cut-visit-goal`). Each exit of `next_cut` and
--   `visit_cut` is a law of `CuttingLaws`, the loop over the limits is `CutDeepening`. All goals are compared at each choice, as the
--   definition asks for a regular tree, and labels are asked at the end alone: a list that they refute gives up its start, and dropping it
--   earlier would let a goal take another choice. `is_left` shows that the limit is left, as in the complete search; where it never does,
--   each greater limit fails in the same way (`none-beyond`), and `deepen_cut` ends. Each start has a store of its own, so no clause on
--   marks, moments and room is needed. `decide` says of a tableau that it is closed and that it has the list's choices, so nothing is
--   compared.
-- - *Left.* `is_left_at` tries the extensions of one goal at the limit d + 1 (`at-deeper`): one that is regular shows it (`left-by_tree`),
--   else each is dead (`tried-all`).
-- - *Lists without open goals.* Solving the tree's system uses a step for each list of lengths that it tries. `IsSolving` and `IsDecided`
--   say what it and its answer come to, for every list of all goals of the tree; `DecidingLaws` has one law for each exit:
--   `solving-counted`, `solving-ended`, `solving-none` (the lists of lengths are spent behind the list of choices), `none-closed`, and
--   `made-fits` for what `solve` asks. `SpentLaws` has the counts without solving.
-- - *Looking ahead.* Where the limit is known to be left, `visit` drops a list whose leftmost open goal, or one beside it, is lost
--   (`IsLost`, and then `HasLost` with its number): no ancestor may close it, by symbol, sign and outermost names, and its path has room
--   for no extension, or for one and none has hope (`GivenUpLaws.lost-cannot`, `lost-dropped`). `next_choice` passes over extensions by
--   literals that clash with the goal, which no tree follows, and at a point whose path has room for one extension also over those without
--   hope, before anything is matched; it promises `IsNextLeft`, whose `passed` are of these two kinds (`IsPassed`) and may be mixed, and
--   `TryingLaws.next-tried` and `none-left` take them from what is pending. Ancestors are looked for once, which are not passed over; then
--   `next_place` goes over the goal's row of the index and speaks of extensions alone (`IsNextPlace`, `PassingOver.passes-left`), to which
--   `left-extension` and `left-none` add what was left of the ancestors. No step is spent for what is dropped or passed over. Marks of
--   symbols under signs are made of the path where they are asked for (`marks_of`), so the goals of the tree keep none. `WayUpLaws` is for
--   loops up a path: what each goal that was passed has.
-- - *Dropping by labels.* Where the limit is known to be left, `visit` drops a list whose equations and strings alone are refuted by the
--   order of label beginnings (`PruneLaws`: a part of the tree's system is a system that names its strings, `tree-pruned`, `visit-pruned`);
--   no step is spent for it. `take_up` is the visit without this test. Which lists are tested, and by how many choices (`is_extended`,
--   `has_room`, `Tests`), promises nothing.
-- - *Read off and closed.* Beside its names, what is read off is told by each solution σ with own spares: literals and instances are those
--   that the matrix has by σ (`instance-read`, `connected-read`), and on the stack stand the trees of `closings_by` (`closings-reduce`,
--   `closings-extend`, `whole-built`). They name normal numbers, so they stay as the table grows. `FoundLaws` joins this with
--   `OwnSparesSolve`: `unlabelled-tableau` (in the classical logic no position is a pi position, so labels are empty, and `StandsWhole`
--   says that no goal is the same as one above it) and `labelled-tableau` (what `solve` found: `IsFound`); then `read-closed`. `IsFoundIn`
--   of `prefix_split` says what the laws of `search_theory` ask: each string of the system is built, no unbound string was added, what
--   solves the new store solves the old one (`back`), and cells are built right if they were (`KeepsRight`: `right-given`,
--   `right-equation`, `right-system`; unification binds to cells made of the two that it makes equal, `FromLaws` of `search_theory`). What
--   a demand adds is built right too, where the equation that it answers has a solution (`EquatesRight`, *Built right* of `domain_cond`;
--   `MeetingLaws.right-equated`), and each store with own spares has one.

-- where the limit is left
pub mod LeftLaws
-- how many steps were used
pub mod SpentLaws
-- visits
pub mod VisitLaws
-- lists without open goals
pub mod DecidingLaws
pub mod FoundLaws
-- lists that labels refute
pub mod PruneLaws
-- the loop over the points
pub mod StackedLaws
pub mod DeadLaws
-- looking ahead at the limit
pub mod PassingOver
pub mod StandingLaws
pub mod TryingLaws
pub mod JumpingLaws
pub mod BindingKept
pub mod GoingBackLaws
-- the search at one limit
pub mod SearchedLaws
-- deepening
pub mod DeepeningLaws
-- the search that does not return to solved goals
pub mod CuttingLaws
pub mod CutDeepening
