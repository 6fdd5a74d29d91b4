-- How this crate is proved.
--
-- Carried by `SymbolEq.symbol_eq-exact` (symbols are found by what they are) and `CountLaws.clauses-by` (counts go by components, as the
-- code does).
--
-- `SymbolEq`: the derived `==` of symbols is exact, which `IndexSet` needs. `Distinct`: `are_distinct-append`, `are_distinct-insert_key`
-- keep the model's invariant at `add`. `Products`: `capped-mul`, `capped-add-mul` for counts that stop at a limit. `Seeking`: the search
-- in preorder finds `at f p`.
--
-- And: ground lists by number.
--
-- Carried by `part-inj` (in a table without repeats a list has one normal number) and `table-push` (a new entry keeps it so).
--
-- `GroundTable` keeps lists of terms, of characters and of values in one numbering, each list once; `GroundTerms`, `GroundLabel`, `Values`
-- are numbers of it, and so terms, characters and values are `Copy`. What a table shows is the list of its lists as trees
-- (`GroundLists.GroundList`), a fold over its entries (`GroundTables.lists_from`), each entry by the lists before it: total, without a
-- measure.
--
-- - *A number that is no list of the kind that is asked for stands for the empty list*, and the empty list is kept under no number but
--   `GroundTable::EMPTY`. So reading asks for nothing, and two numbers stand for one list exactly where they are equal once both are
--   normal (`normal_terms`: the empty ones become `EMPTY`). `IsNormal`: "empty, so its number is `EMPTY`". Items are made normal as they
--   are added, so each entry has one spelling.
-- - `GroundTableLaws`: `part-stays` (what a normal number stands for stays when the table grows; this is what holders of numbers owe,
--   `IsNormalTerm` and so on, and each of `add_terms`, `add_marks` and `add_values` gives it with `IsGrown`; `GrownLaws` says it of any
--   two tables of which one is grown), `part-inj` (equal lists have equal normal numbers, where the table is apart), then one law for each
--   kind; `items-inj`; `is-read` (the list at a number is that of its entry by all lists, and its items are normal and name lower lists);
--   `table-push` (a new entry keeps the table apart).
-- - `EntryLaws`: the derived `==` of entries tells whether they have the same items (the capacity of a `Vec` is part of its value, so
--   entries themselves need not be equal); `entry-read`, `entry-added` are the two uses of the set.
-- - A function of trees becomes a loop over numbers from 0 that keeps a `Vec` of answers: the clause `lower` of `terms`, `marks`, `values`
--   says that what an item names is empty or stands before it.

pub mod Products
mod Pushed
pub mod Seeking
pub mod SymbolEq
pub mod Distinct
pub mod CountLaws
pub mod GroundTableLaws
pub mod SharedEq
pub mod EntryLaws
pub mod GrownLaws
mod CopyLaws
