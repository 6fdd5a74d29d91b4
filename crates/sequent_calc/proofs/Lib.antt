-- How this crate is proved.
--
-- Carried by no law of its own: the code goes by the definitions of the rules, and `SequentLaws.step-fresh` of `calculus` says that what a
-- step brings is new.
--
-- `addition_of` tells what a step adds and `apply` copies the children, so that a checker can grow a branch in place. `LeafTest` is one
-- recursion over leaves for the four tests of the rules. `Entries.entry_of-found`: entries are numbered from 1.
-- `TermLists.terms_eq-items`: lists of different lengths differ. Names are found by halves while their numbers rise, as they do in each
-- text: `EigenList` and `SpareList` keep whether they do (`ByNumber`: `rising-push`, and one law for each exit of the search), so no
-- clause asks it of a list. The label and the term of a step lie apart (`ModalArg::to`, `TermArg::term`), since most steps of a long
-- derivation have neither.
-- - *Forms.* Which arguments a kind of formula asks for is told by their forms alone (`FormView`: `modal_form`, `term_form`);
--   `Forms.fit-by` leads from the test of forms to the words of the calculus, so one `arguments_fit` serves terms as trees and in rows.

pub mod TermLists
pub mod Entries
pub mod Forms
pub mod Freshness
pub mod ByNumber
