-- How this crate is proved.
--
-- Carried by `SearchSteps.search-ended`: where nothing is pending, no tableau is closed within the limit, and whether the limit is left is
-- known.
--
-- - *Templates.* `IsTemplateOf P sides t` says that a template's ground instances are the selection's; `TemplateLaws.template_of-right`,
--   `TemplateExists.template-exists`, `TemplateFits.template-part_fits` (the sorts, where the formula fits its symbols),
--   `ClassicalTemplates.template-classical`. Variables are numbered in the order of values.
-- - *States.* `IsStateOf P d c S`: the images of the state under the ground solutions of its store are exactly the trees of ground choices
--   that are named c. `StepLaws.state-started`, `ExtensionLaws.state-extended`, `state-reduced`; `no-extension`, `no-reduction`.
--   `MeetingLaws` gives what they ask from copying and unifying in either order; `BuildingLaws` says which lists of cells are copies.
-- - *Own spares.* `RankLaws`, `SpareLaws`, `DistinctLaws.distinct-general`: values that tell unbound variables apart make equal only what
--   every solution makes equal.
-- - *Enumeration.* `Explores`, `IsSearch`: spent members rise strictly, and each closed tableau lies behind a pending beginning. One law
--   for each arm of the loop: `search-start`, `search-dead`, `search-visit`, `search-left`, `search-ended`; `ChoiceLaws.choices-complete`,
--   `extensions-by_index`; `EarlyLaws.steps-ended`; `DeepenLaws`.
-- - *Without return to solved goals.* `Cutting` says how far such a search is, over lists of choices alone. `ComesDown`: to solve these
--   goals from here on comes down to solving fewer from a later list on. A `Level` is a goal that is being solved, with the choices behind
--   the one that is tried; each choice of the goal is one of these or fails (`AreUntried`). `LevelLaws` has one law for each event
--   (`trying-next`, `trying-less`, `level-solved`, `settled`, `all-solved`), `CutEnds` what a failed goal and a failed start come to
--   (`trying-failed`, `fails-whole`, `none-cut`, `found-cut`). How long the paths of open goals are follows from the choices alone
--   (`DepthLaws.state-depths`), and levels agree with it (`level_depths`): so the goals that are solved are those above the leftmost open
--   goal's depth. `PassingLaws`: steps are spent on members that rise, whatever is left out.
-- - *Which limits a failed search tells of.* All of this holds at any limit, so what is kept is said of each limit e of
--   `IsToldOf d left e`: d itself and, while nothing has shown that d is left, each greater one. A list that is sound at d is sound at e
--   (`CutLimits.sound-more`), a goal has no other choices there (`untried-told`, since no open path is longer than d: `state-short`), and
--   a list has the same closed tableaux (`closed-lower`). Showing that d is left makes the limits fewer (`told-before`), and nothing is
--   lost.
-- - *The loop.* A point on the stack has a trail mark and its untried choices. Start: copy. Reduce: unify. Extend: match the connected
--   literal, copy the rest. Refuse where a new goal stands on its path; spend a step for each list that is live; at a list without open
--   goals test all pairs and answer. The measure is (budget - used) · (literals + 200) + untried choices.
-- - *Looking ahead.* Each goal of a closed tableau is closed by some closing (`LookAheadLaws.closed-closeable`), so one with d goals above
--   it by a reduction. `full-lost` and `nearly-lost` say which goals no bindings close; no tableau that is closed within d begins with a
--   list that has one (`JumpLaws.cannot-pruned`). `BarrenLaws` says the same of an extension before anything is copied: `IsBarren` means
--   that, whatever solution and values make it, one of its new goals is not closed, since it is the same as one above it
--   (`repeated-barren`, and so a dead end, `repeated-dead`) or lost at the limit (`lost-barren`, `hopeless-barren`); then no closed
--   tableau begins with it (`barren-pruned`), nor a list that closes the goal of an earlier point (`barren-fruitless`). `search-pruned`
--   drops these lists, once the limit is known to be left: trees that show that it is left may begin with them.
-- - *Jumps back.* `IsSolvedList P d c b`: the list b closes the leftmost open goal of c, whatever becomes of the goals behind it. Where
--   none of these lists is pending any more, no ground solution of the state makes that goal one that is closed
--   (`SolvedLaws.unsolved-open`). So it is in an older state in which the goal's cells and their parts are the same: a solution of the
--   older state is carried over to the newer one, with admitted values for what came since (`TransplantLaws.transplant`, `goal-alike`;
--   `JumpLaws.cannot-transplant`), and no closed tableau begins with the older list (`cannot-pruned`, `search-jump`). How the search knows
--   that none is pending: `AreSolvedBehind` says of each point that its goal, if it was not solved since the point was made, is solved by
--   lists that begin with what is pending on this point and on those after it, or not at all. Whether it was solved is read off one number
--   for each point, the lowest number of a goal that was the leftmost open one since then. `JumpLaws` has one law for each event: a list
--   is tried (`solved-tried`), refused (`solved-refused`), given up because of a goal that cannot be closed (`solved-cannot`), passed over
--   (`solved-passed`), a point is made (`solved-pushed`, `solved-started`), and what was seen is handed down (`solved-seen`, `solved-on`).
--   Nothing is asked of points whose goal was solved (`solved-nothing`).
-- - *Labels.* `SolvingLaws` and `GivingLaws`: one list of string lengths, equation by equation (`IsNarrowed`, `IsSolving`); `DemandLaws`,
--   `HomeLaws`, `OwnHomes`, `NeedRanks`: the domain conditions; `LabelledEnd`: `closed-by_solution`, `no-closed-list`; `LeftLabels`;
--   `PruningLaws`: pruning by prefixes before the end.
-- - *Where unification binds.* `BindsWithin`: what is bound occurs in the two cells, and so does its target. `WithinLaws.names-within`
--   carries `NamesFrom` over a call.
-- - *Copies.* `copy_clause` and `copy_rest` give what `BuildingLaws.copy-by_cells` and `rest-by_cells` ask; `StageLaws.inserted-removed`
--   takes the connected literal out of its clause.
-- - *Right patterns.* `ProperPatterns.selection-right`: each pattern of a template, those of gamma labels too, builds a cell that is right
--   by the sorts of its parts. It is proper in the instance by spare values (`literals-proper`, `gammas-proper`), and whether values fit a
--   way depends on sorts alone (`way-alike`).

-- growth by one more choice, and images
pub mod LastChoice
pub mod ImageLaws
pub mod BelowLaws
-- lifting
pub mod StepLaws
pub mod ExtensionLaws
pub mod MeetingLaws
-- own spares
pub mod SpareLaws
pub mod GeneralLaws
pub mod ClassicalLaws
pub mod RegularLaws
-- closed tableaux
pub mod ClosedLaws
-- the depth-first visit
pub mod ExploreLaws
pub mod EarlyLaws
pub mod BeginningLaws
pub mod NextLaws
pub mod DeepenLaws
-- templates
pub mod Dropping
pub mod TemplateFits
pub mod TemplateLaws
pub mod TemplateExists
pub mod ClassicalTemplates
pub mod RankLaws
pub mod BuildingLaws
pub mod StageLaws
pub mod UnifyLaws
pub mod ClassicalSteps
pub mod ChoiceLaws
-- the loop
pub mod SearchSteps
-- examples that compute
mod TemplateExamples
pub mod MatrixStart
-- lists without open goals
pub mod WholeLaws
-- labels
pub mod DistinctLaws
pub mod AtomLaws
pub mod SolvingLaws
pub mod WithinLaws
pub mod GivingLaws
pub mod DemandLaws
pub mod JoinedLaws
pub mod SystemLaws
pub mod SystemSteps
pub mod BringsLaws
pub mod RuleLaws
pub mod AdmittedLaws
pub mod LabelledEnd
pub mod LeftLabels
pub mod PruningLaws
pub mod LookAheadLaws
pub mod HomeLaws
pub mod HomeRanks
pub mod OwnHomes
pub mod NeedRanks
pub mod SystemCells
pub mod KeepingLaws
pub mod FromLaws
pub mod RightWays
pub mod LabelledBuilt
pub mod TemplateSorts
pub mod ProperPatterns
pub mod VariableSorts
-- the search that does not return to solved goals
pub mod PassingLaws
pub mod LevelLaws
pub mod DepthLaws
pub mod SoundLaws
pub mod CutEnds
pub mod CutLimits
-- jumps back
pub mod SolvedLaws
pub mod TransplantLaws
pub mod JumpLaws
pub mod BarrenLaws
