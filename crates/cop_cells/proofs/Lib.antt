-- How this crate is proved.
--
-- Carried by three layers. `block.rt`, the only file with `unsafe` code: who owns places of a block (`Places`) and who may free it
-- (`Deed`) are values without bytes, so that memory stands in no clause above and all else is proved without a walk. `pages.rt`: pages by
-- a table of pointers, seen as the written cells of each. `cells.rt`: the list over the pages.
--
-- - *Memory.* `specs/Memory.antt` says what `Places` own: a row of places side by side, each the value that is written there or room for
--   one. `Rows` cuts a row in two, glues two, and takes one place out and puts it back (`place-out`, `place-in`); a place forgets its
--   value (`forget`), so writing takes any place and a block is freed whatever it holds. `Lent` is the same for a row behind a `&`.
--   `Values` has the machine's values of these types. Each function of `block.rt` has its proof by hand, under `proofs/block`.
-- - *Where a part of a block begins* is told by two ghosts, the block's pointer and a number of places. That the pointer to the part is so
--   many places on stands in what `Places` own, since an invariant cannot name the size of an item. So parts are next to one another by an
--   equation of numbers, which `join` asks for.
-- - *Blocks.* `Layout`: where the pages of the blocks begin, one block behind the other (`laid`), is where the pages of the table begin
--   (`spots_of`). Dropping takes the last block's pages from the end of the table, joins them from the last to the first, and frees the
--   block (`LayoutLaws.last-block`, `last-page`). A page that is not joined, or a block that is not freed, does not compile: neither type
--   may be let go.
-- - *Pages.* A page is a front of written places (`IsFront`); `Fronts` has reading and writing over it.
-- - *The list* is the first `len` cells of the pages joined. A page has its part of the cells (`AreWritten`), so reading and writing at
--   place i is reading and writing in page i / 4,096 (`PageLaws`, by induction on pages); `CellLaws` has one lemma for each clause. A loop
--   that pushes needs the invariant `n - i ≤ l.cells.spare`. `omega` does `/` and `%` by a literal.

pub mod Fronts
pub mod LayoutLaws
pub mod PageLaws
pub mod CellLaws
pub mod Lent
pub mod Rows
pub mod Values
