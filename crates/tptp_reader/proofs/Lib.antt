-- How this crate is proved.
--
-- Carried by `OneReading.one-reading`: a text has one reading, its items or its first fault.
--
-- The readers (`term_reader` to `text_reader`, `reader`) go over the tokens once, by recursive descent. They test each token and its
-- nesting, which bounds the recursion at 500 levels; chains, arguments, names, notes and items are loops. Where one of them answers
-- `NotThere`, the machine of what is expected (`following`, `machine`, `Expecting`), with its stack on the heap, goes over the text from
-- its start and tells the fault (`text_fault`, `formula_fault`).
--
-- - Definitions: `OneReading`, `Totality`: a text, and a formula at a place, has exactly one reading. `TreeLaws.one-tree`: a list of
--   tokens has at most one formula tree. `ExactLaws`, `FollowLaws`: a token can follow exactly where the stack has a step (`step-follows`,
--   `no-step`). `LiftLaws` carry this from a formula to the text of an item.
-- - The faults: `StackViews` (`step-found`, `step-stuck`, `step-passed`: one turn of the search for a step), `NestingLaws.after-within` (a
--   token begins parts at most one deeper than itself, so while tokens up to 500 are taken none waits deeper than 501), `RunLaws`,
--   `EndingLaws` (`IsFor`; `stuck-fault`, `deep-fault`, `no_token-fault`, `end-fault` lead from the ends of the way to the constructors of
--   `HasFault`), `StageLaws.place-is`: the place that the stack tells is the place of the next token, and so its cause.
-- - The readers: their clauses say that there is a tree whose tokens stand there (`Span text p ts q`: from the piece p on these tokens
--   stand, and q is the piece behind them), which value it has, and that its nestings are all read (`Standing`, `ClauseStanding`,
--   `ItemStanding`). `SpanLaws`, and in `TermReading` to `TextReading` a lemma for each exit of the code, which builds the tree from the
--   trees of the parts. `ReadLaws` leads from nestings that are read to `AreShallow`, by a run of the machine over the tree's tokens
--   (`TreesDerive`). What an item says depends on the places of its tokens: `Placing` is a `Span` with them, and the clauses of names,
--   items and texts hold whatever follows (`NamesRead.value`, `ItemRead.value`, `ItemsUpTo.value`), so that no law on how far an item
--   looks is needed.
-- - The readers read each text that has no fault. `Failing`: `Fails modal text es from` says that the machine with the stack `es` goes
--   wrong at the place or behind it. Each reader has a clause `settles`: where it answers `NotThere` the machine fails with the part that
--   it looks for on any stack (`OnStacks`: one on which more than optional parts wait), and where it finds something the machine fails if
--   it does behind that. So what a caller settles is composed from what its calls settle, with no word on trees or nestings. `FailLaws`:
--   one token (`fails-next`, `fails-as`, `fails-none`, `fails-skip`, `fails-move`), and answers that are handed on (`stops-at`,
--   `passes-at` and the like). `TermFails` to `ItemFails` have a law for each way on from a part. `EndFails`: a way that fails does not
--   end well (`ran-out`, `ran-whole`), so `text_fault` and `formula_fault`, which ask `Fails`, always find a fault.
-- - Forms: a token is tested by a function that answers `form x == n` or an option of the specs, so that the negative case is an equation;
--   an or-pattern of the variants that go on closes where a catch-all arm stays open.

-- the stack of what is expected: derivations, and that a step is the only way on
pub mod Deriving
-- the tokens of a text, in one way
pub mod PlaceLaws
-- the tokens of each tree are derived, so a token without a step cannot follow
pub mod TreesDerive
pub mod FollowLaws
-- a text has at most one fault
pub mod FaultLaws
-- tokens have at most one tree, and say one list of items
pub mod TreeLaws
pub mod ItemLaws
-- a text has one reading, and so has a formula in a text
pub mod OneReading
-- what is derived are the tokens of trees, so a token with a step can follow
pub mod Forms
pub mod FormulaForms
pub mod ItemForms
pub mod Derived
pub mod ExactLaws
pub mod StackLaws
pub mod LiftLaws
-- each text has a reading
pub mod Lexing
pub mod Deciding
-- the tokens of the program
pub mod PieceLaws
pub mod StackViews
-- how deep the parts stand that wait
pub mod NestingLaws
pub mod RunLaws
pub mod EndingLaws
pub mod SpanLaws
pub mod TermReading
pub mod AtomReading
pub mod VariablesReading
pub mod FormulaReading
pub mod ReadLaws
pub mod PlacingLaws
pub mod ClauseReading
pub mod NotesReading
pub mod ItemReading
pub mod TextReading
pub mod FormulaEnds
pub mod StageLaws
pub mod TextEnds
pub mod Totality
-- where the way over a text goes wrong, and that a reader stops there alone
pub mod FailLaws
pub mod TermFails
pub mod AtomFails
pub mod FormulaFails
pub mod ClauseFails
pub mod ItemFails
pub mod EndFails
-- worked examples
mod Examples
