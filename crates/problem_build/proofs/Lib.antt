-- How this crate is proved.
--
-- Carried by `OneProblem.one-problem`: files hold one problem or one first refusal.
--
-- - *One answer.* `OneProblem`: files hold one problem or one first refusal. `BuildLaws` (`answered-problem`, `answered-refusal`,
--   `answered-alone`, `answered-fetch`) puts the clauses of the walk and of `problem_of` together, over files. Each clause of the walk
--   speaks of every map of files that agrees with what the call read: `reads_parts` gives the part of each inner call. The clauses on the
--   files that a library tells follow by `of-told`.
-- - *The walk.* Outcomes are told over the files as they are and, for each name, over the files without it (`Outcomes`); `GoesOn` says that
--   one walk leads to another unless it ends at the file left out, `EndsIn` that it ends in a fault. So it comes out of the same clauses as
--   the walk's result that a file that could not be read is one at which the walk over the others would end. Each function of the cycle
--   says what it leads to (`LeadsTo`, `StepsTo`); `FileLaws` has one lemma for each answer of a fetch (`missing-ends`, `failed-ends`,
--   `large-ends`, `read-goes`), `WalkLaws` one for each end of an include, `WholeWalk.main-walk` leads to `walk`. Which files are read
--   (`ReadsOnly`) is said by the same words: each name is one at which the walk would end in the fault that it could not be read, so the
--   lemmas for ends serve again, and `FetchingLaws` puts the reads of two calls together (`only-both`, `only-wider`).
-- - *Symbols that are added.* `Adds before after xs result` says what each outcome means: all are there, there are too many, or nothing.
--   `adds-then` and `both-added` lead from parts to the whole, `stops-more` and `both-stopped` from where it stopped, `stopped-term` and
--   `stopped-unit` out of a loop. `Stops` speaks of the fault alone, since a word over `Result A F` leaves `A` undetermined in a law about
--   `Err f`.
-- - *Measured before it is built.* `measured` and `first_measured` are the nodes of formulas, each with its connective, or that one is
--   nested too deep. `MeasuringLaws` has one lemma for each exit of the loops over symbols (`listed-step`, `measured-step`, `step-deep`,
--   `measured-end`); `measured-is` says what was found. `LimitLaws`: `measured-whole`, then one lemma for each limit (`many-symbols`,
--   `deep-part`, `large-formula`, `no-formula`, `whole-problem`); the joined formula is at most 22 levels deeper than its parts
--   (`joined-depth`). A symbol with over 500 arguments is refused before its axiom is built (`wide`).
-- - *Items.* `ItemLaws` has one lemma for each exit of the loops over items; they go over the rest (`drop`), and the vector that is taken
--   apart is reversed (`part-next`).
-- - *What fits.* The walk says that whatever test holds of the formulas of all texts of at most 16 MiB that are read holds of those that
--   pass (`AreRead`), so three tests suffice: `is_well` (`ReadingLaws.read-well`) and `names_fit` (`NameLaws.read-names`: tokens in lower
--   case or in quotes have name bytes). `FittingLaws`: `symbols-fit`, `premises-fit`, `conjectures-fit`. The third is `is_short`: a formula
--   has no more names than its text has bytes (`NameCountLaws.read-short`), so arities (`symbols-narrow`) and variables in scope
--   (`free-few`) have numbers of 32 bits, and no arm answers want of memory for them.
-- - *Names.* A `NameSet` is seen as the list of its names, the few first ones and those behind them, so the free variables are said by
--   `with_new` with or without it. `NameSetLaws` has one lemma for each exit of `add_name` (`known-few`, `one-of-few`, `one-more`) and
--   `contains` (`among-few`, `among-more`). A set has the names of the list that it is made from (`among-new`, `names-end`, `places-end`),
--   which is the invariant of `Selection`; `absent-same` goes from the set of the reached names to their list. `one-entered`: where an
--   include has a list, `leave` finds one.
-- - *Symbols stand in the formula.* `StandingLaws`: a list of symbols is looked at as a whole (`both`, `implied`), so the proof follows
--   `symbols_in`; `joined-same` for balanced joins, `parted` for premises and conjectures. `ConjectureLaws.one-conjecture`: the walk passes
--   at most one.

-- files hold one problem, or have one first refusal
pub mod OneProblem
-- a list has one balanced join
pub mod BalanceLaws
pub mod AddingLaws
pub mod NameSetLaws
pub mod ExpandingLaws
pub mod FallingLaws
pub mod ListLaws
-- the formulas of items are closed and fit
pub mod ExpansionLaws
-- counts over sources are those of the expanded formulas
pub mod CountingLaws
pub mod AxiomLaws
pub mod JoinedLaws
-- the files that are read
pub mod FetchingLaws
-- the steps of the walk
pub mod WalkLaws
pub mod FileLaws
pub mod StepLaws
pub mod PassingLaws
pub mod IncludeLaws
pub mod WholeWalk
pub mod ReadingLaws
pub mod MeasuringLaws
pub mod LimitLaws
pub mod NameLaws
-- a text has no more names than bytes
pub mod NameCountLaws
pub mod ItemLaws
pub mod FittingLaws
pub mod ProblemLaws
pub mod StandingLaws
pub mod ConjectureLaws
pub mod BuildLaws
mod Examples
