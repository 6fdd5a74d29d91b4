-- How this crate is proved.
--
-- Carried by `RunningLaws.running-started`, `running-reduced` and `running-extended`: what each choice makes of a state of `search_theory`,
-- with the system that comes.
--
-- - *Two kinds of clauses.* A function asks for one state that its values stand for (a sum in `requires`), which is all that safety needs,
--   and promises something of every such state (a product in `ensures`), so no ghost argument goes through the calls. `IsAt`: store and
--   tree stand for a state of `search_theory` over the search's own cells (`IsRunning`), whose system is that of the tree (`tree_system`).
-- - *Own cells.* What a search built has the number `base` or a greater one and is built right, and no string is built before a system is
--   solved (`AreOwn`). `OwnCopies.own-copied`: copies of templates keep it, as `own_signature` allows what they are built of
--   (`template-own`, by `AreRight` or in classical logic by `classical_signature`); `OwnLaws.own-binds`: so do bindings. `KeptLaws`: atoms,
--   goals, choices and systems stay where cells keep their sorts, and `system-added` is what must hold of what comes. `OpenStrings`: each
--   unbound string is one of the system's (`AreNamed`): an unbound one was unbound before, and what led to it still does.
-- - *The tree.* Paths and the list of open goals are links through the list of all goals (`IsPath`, `AreOpen`). What is open behind a goal
--   never changes, so going back is cutting two lists. `TreeLaws` follows links, `GrowthLaws` what comes.
-- - *Moves.* `made` leads to `StandsFor` with one choice more, `refused` to `IsRuledOut`: a dead end (`IsDead`), or, where a limit is
--   looked at, a list with which no tableau begins that is closed within it. `RunningLaws` says it of states (`running-started`,
--   `running-reduced`, `running-extended`, `no-reduction-by_clash`, `running-ground`, `running-live`, `running-left`), each with the system
--   that comes, `MoveLaws` of the program's tree.
-- - *Goals that are not looked at.* That an extension is made says nothing of regularity, only that it is refused does. So `has_repeated`
--   may leave literals out, and leaves out those with a variable that the connected literal lacks (`occurrences.rt`), which give goals that
--   are the same as none above them. Nothing is proved of which these are.
-- - *Extensions that are set aside.* What is seen of another literal over the variables, in the store in which the connected literal was
--   matched (`IsSetAside`), holds of each extension that bindings of the store before allow, as matching takes each of their solutions
--   along (`IsHeadMatch`). So the extension is a dead end, or begins nothing that is closed within the limit that is looked at, and it
--   closes the goal of no point (`UncopiedLaws.set-aside`, from `IsBarren` of the theory).
-- - *Names.* Before a literal is tried, its names at all depths are compared with those of the goal's arguments (`is_apart`): where they
--   differ, no solution makes the goal's term equal to a copy of the pattern (`IsApart`, said of all solutions and values, so that
--   `HeadLaws.apart-by_parts` takes it from a part to the whole; `apart-by_names`), and no tree follows the extension
--   (`MoveLaws.extension-clashes`).
-- - *Literals that are not built.* The other literals of a clause are looked at as patterns over variables of the store (`uncopied.rt`). A
--   variable keeps a cell apart by the name at its end (`HeadLaws.variable-apart`), and what names show of all copies holds over these
--   variables (`apart-over`). `LookingOver` has the rest. A literal is lost where nothing above it may close it (`no-reduction`) and the
--   path has no room (`lost-at_limit`), or the marks of the path with its own show that it has no hope (`marks-below`,
--   `lost-without_hope`). A literal whose arguments and label match those of an atom is that atom in each solution (`same-literal`).
-- - *Goals that failed.* A key lists the literals of a goal and of those above it, each before its arguments, with numbers for variables.
--   `Spells f key vs ls`: where f gives the variables' values, the parts spell these values and then these literals, and no others
--   (`KeyLaws.spells-once`). While a goal is read, what is read spells the goal with whatever spells the cells and literals that are left
--   (`IsReading`; one law for each part, `reading-variable`, `reading-function`, ..). `KeyFails P d key` speaks of no store: whatever
--   admitted terms the variables stand for, what the key spells is not closed within d. So a goal with such a key cannot be closed in any
--   state (`FailedLaws.failed-cannot`), and the leftmost open goal has one where no list closes it any more (`spent-fails`), since unbound
--   variables may have any admitted terms as values (`ChosenValues.has-values`).
-- - *New bindings.* `IsClosedBelow n s` (of `term_unify`): cells with numbers below n name such cells alone, as those do that were there
--   before a copy (`CopiedBelow.closed-copied`). While it holds, an unbound variable from n on occurs in none of them
--   (`ClosedLaws.newer-apart`), so `unify_below` binds it without a look for it, and of two unbound variables the newer one; the binding of
--   an older variable to a newer cell gives it up (n = 0), each other one keeps it (`closed-bound`).

-- lists by places
pub mod Places
-- unifying and comparing atoms
pub mod CopiedBelow
pub mod UnifyingLaws
pub mod DistinctStores
pub mod SamenessLaws
pub mod HeadLaws
-- the tree
pub mod TreeLaws
pub mod SeenLaws
pub mod GrowthLaws
pub mod SystemGrowth
-- copies
pub mod ClassicalGammas
pub mod ClassicalCopies
-- a search's own cells
pub mod KeptLaws
pub mod OpenStrings
pub mod OpenVariables
pub mod OwnLaws
pub mod OwnCopies
-- states
pub mod RunningLaws
pub mod PlaceLaws
-- moves
pub mod MoveLaws
-- choice points
pub mod PointLaws
-- looking ahead at the limit
pub mod WayUpLaws
pub mod AheadLaws
pub mod LookingOver
pub mod GivenUpLaws
pub mod LookingLaws
-- the search that does not return to solved goals
pub mod MatchingLaws
pub mod UncopiedLaws
-- keys of goals, and goals that failed
pub mod ChosenValues
pub mod KeyLaws
pub mod FailedLaws
