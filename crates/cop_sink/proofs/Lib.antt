-- How this crate is proved.
--
-- `Sink` is a trait with ghost members: what it tells (`written`, optional), the pieces that went out (`puts`), and a count. `PutRecord`
-- holds the pieces as `ReadRecord` does the answers. A loop that goes over a generic sink has its invariant as a function of `g` and `l`:
-- `g.K.Sink.written l.out`. `Writing` (proofs): what a writer holds as one write after another goes out.

mod Writing
