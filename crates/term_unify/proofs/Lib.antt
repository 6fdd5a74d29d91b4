-- How this crate is proved.
--
-- What it stands on is carried by `SolutionLaws.solution_by` of `store_theory`: what is true of all solutions is what unification must
-- keep.
--
-- - *Termination of `unify`.* The outer loop binds one variable a turn (`open_count`); the inner one has the measure `pairs_weight`, the
--   weights of the left sides. `occurs-bound`: after a binding of v to r, what occurs in a cell occurred there or in r. `weight` is
--   computed with fuel, which suffices since ranks can be squeezed below the number of cells (`level`).
-- - *One pair.* A pair that `compare` decides needs no list (`OnePairLaws`: `unifies-same`, `binds-pair`, `occurs-pair`,
--   `differs-binding`). What holds of the ends of bindings holds of the pair (`unifies-ends`, `apart-ends`, `within-ends`, `same-ends`,
--   `different-ends`), and so does what holds of the pairs of parts (`parts-come`, then `unifies-parts`, `apart-parts`, `within-parts`,
--   `same-parts`, `differs-parts`).
-- - *The same already.* Of built cells that are alike `are_same` is one turn of the outer loop over the pairs of their parts; where it
--   ends with a binding to make, `DiffersBy` says what each solution of the equation would have to bind (`differs-parts`).
-- - *Inner cells.* The occurs check decides a part without parts where it is found: `AreInner` says which ends are listed, and
--   `InnerLaws.looks-inner` carries what the list of all parts would say to the list of these.
-- - *Visited once.* The occurs check passes over cells that it looked at, and the comparison over pairs that it compared since the last
--   binding. What was found of them waits in the list at cells of a smaller weight (`VisitLaws`: `Looks`, `Comes`), so the entry that is
--   passed over is not what they wait for. A binding changes weights, so the pairs are forgotten there: the work is at most the distinct
--   pairs for each binding.
-- - *Matching without building.* `match_all` compares cells with the patterns of a literal over variables that are in the store, and
--   builds a pattern only where an unbound variable meets it. A cell matches a pattern in a solution where its value is the pattern's by
--   the values of the variables (`Matches`, by `pattern_value`), so no cell stands for the pattern in what is promised (`Narrows`: the
--   solutions after are those before of which this holds, and agree on the cells that were there). `MatchLaws.narrows-copy`: a pattern
--   that is copied and unified; `MatchShapes.matches-built` and `built-matches`: a built cell and a pattern with parts are equal exactly
--   where name and parts are; `MatchedLaws.matched-more`: one pattern after the other. Bindings and new cells come in turn; as no built
--   cell changes, the same comes of all cells and then all bindings (`AddsAndBinds`, `MatchCells.adds-both`). A pattern's variable, which
--   is its own copy (`IsCopy`), is bound at once where it is newer than the cell (`OnePairLaws.newer-pair`). `are_matched` compares in the
--   same way and binds nothing; its true answer says that the cells match in each solution (`HoldsAlways`: `MatchBuilt.built-always`,
--   `MatchLaws.next-matches`).
-- - *The list as a conjunction.* `ComesTo` for the inner loop, `Unified` for the outer one; false and want of memory undo to the mark of
--   the entry.

pub mod StepLaws
pub mod PairLaws
pub mod OnePairLaws
pub mod VisitLaws
pub mod InnerLaws
pub mod ListItems
pub mod FlatLaws
pub mod SameLaws
pub mod ClosedLaws
pub mod MatchLaws
pub mod MatchCells
pub mod MatchShapes
pub mod MatchedLaws
pub mod MatchBuilt
