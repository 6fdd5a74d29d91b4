-- How this crate is proved.
--
-- The instance of a move is found when the move is judged (`close_by_move`), over a copy of the moves' table that grows, and is dropped
-- when its goals are open. The open goals and the path name lists that stay the same then (`AreNormalGoals`; `NormalLaws` has it when a
-- goal is closed and when the table grows). For building the tableau of accepted moves all instances are found again (`resolve`).
--
-- - *Instances.* `gather` walks through the formula depth first, with its stack on the heap. So what stands on the way to a part (`Way`:
--   characters, values, terms put for variables) is one stack too, to whose points (`WayPoint`) the parts that wait cut it back.
--   `open_tasks` and `AreWaiting` cut from part to part, so that a way that has gone on matters to the first of them alone
--   (`open-longer`, `waiting-longer`). A way stays the same when the table grows (`IsNormalWay`); `SteppingLaws` has this of ways and
--   literals, and the steps that make a way longer (`IsWayMade`). A part is entered past its modal step (`IsModal`, `IsEntered`; `EnteringLaws`)
--   and opened (`IsOpened`; `OpeningLaws`). Both speak of `gathered`, what a part adds to what is gathered so far: `GatheringLaws` has it
--   case by case, with `steps-joined` for a modal step and what is behind it, and `WalkingLaws` the loop (`begins`, `walk-goes_on`,
--   `walk-stopped`, `ends-used`). `ResolvingLaws` leads from the summary of the walk to `literals_of`, `modal_steps` and
--   `strings_are_short`, and `FoundLaws` to a move with its instance (`IsFound`, `IsCloser`), to the steps of all (`steps-begin`,
--   `steps-so_far`, `steps-end`) and to all of them (`IsResolved`). Steps are counted up to the end of 64 bits (`capped`), which no string
--   in memory is longer than (`within-capped`).
-- - *Judgement.* `closers_verdict` is `moves_verdict` over moves whose instances are found (`JudgingLaws.judged`). One path is shared: it
--   is cut back to the goals above the next one (`the_open`, `AreNested`), so a goal is compared with its own path alone. `IsMoved` says
--   what a move does over the table that has its instance, of goals that were opened over the one before (`taken-grown`).
-- - *Tableau.* `tableau_from` takes the moves from the end, each extension finding the closings of its goals on a stack (`built`).
--   `BuiltLaws.built-closed` says that of accepted moves this is the closed tableau that writes them (`IsBuilt`).
-- - *Printing.* `FlatteningLaws` says which moves a tableau has. `write` asks that all numbers have 32 bits. The types of the program say
--   so, and a table's model does not: `moves_fit` goes once through the lists of the table, each naming lists before it. `NumberLaws` says
--   that numbers have 32 bits in a list where they have in the lists before it (`list-numbers`, `one-list`), so in all (`all-values`), in
--   moves and in the tableau that they are of (`tableau-numbers`), and with `closed-moves` that these moves can be written.
-- - *Calls.* `CallLaws.exact` says of a problem which bytes are texts of closed tableaux (`AreTextsExact`): accepted ones are, a text has
--   one tableau and limit, and a closed tableau with numbers of 32 bits one text with a limit from 1 to 200.

mod AllLaws
mod GatheringLaws
mod NormalLaws
mod JudgingLaws
mod SteppingLaws
mod BuiltLaws
mod EnteringLaws
mod FlatteningLaws
mod ResolvingLaws
mod OpeningLaws
mod WalkingLaws
mod BuildingLaws
mod FoundLaws
mod CallLaws
pub mod NumberLaws
