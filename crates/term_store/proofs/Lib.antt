-- How this crate is proved.
--
-- What it stands on is carried by `SolutionLaws.solution_by` of `store_theory`.
--
-- - *One look-up.* `Store::end` follows bindings with the content of the cell at hand in the loop's invariant (`Shows`), so `head` and
--   `parts` look a cell up once. Where a place, its name and its count of parts are asked together, callers take `end` itself:
--   `StoreFacts.shown-end` tells of its content what `head` and `parts` would, and `parts_at` gives the parts as a slice.
--   `CopyLaws.refs-copied`: a list that is copied item by item into a new one.
-- - *Copies over variables.* `AddsOver` and `NamesOver` speak of all numbers `base` at once, so that they compose; `ListLaws.clause-made`
--   puts a clause together. The public calls go back to a mark where memory ends.
-- - *What copies are built of.* `BuildsWithin` quantifies over signatures, which say what names have parts of which sorts and what sorts
--   variables have, and over `base`, so that it composes without a word on how stores grow; `BuildsOver` quantifies over the sorts of the
--   variables too. That a name is allowed says that its parts are there with their sorts (`HaveSortsAt`), so it stays when cells come or
--   are bound (`SignatureLaws`).
-- - *Forms.* Private helpers over `&mut Vec<Slot>` with a recursion on slots in their clause, and one lemma each that carries it to the
--   word of the definitions; `slots[v].content = bound(slots[v].content, to)` gives one goal where a `match` with writes gave one for each
--   arm; a record in `proofs/` for each loop (`ComesTo`, `Unified`, `Copied`) with one lemma for each exit.

pub mod WellLaws
pub mod SlotLaws
pub mod StoreFacts
pub mod MarkLaws
pub mod FitLaws
pub mod OwnLaws
pub mod CopyLaws
pub mod ListLaws
pub mod SignatureLaws
