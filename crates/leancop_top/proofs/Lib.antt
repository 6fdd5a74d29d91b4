-- How this crate is proved.
--
-- Carried by the cases of each command (`ProveEnds`, `CheckEnds`): no law goes through all statuses. Only `inputs.rt` and what it calls
-- have a library. What it reads is a `Task`, and its clause `leads` says that whatever replies to this task ends the command
-- (`LeadsTo`), so `perform` speaks of no library and of no command (`Replies`). The clause speaks of all files that agree with what was
-- read, as an option (`told`), so words take `told` and no record; a function of two fetches hands each call its part of what was read
-- (`reads-first`, `reads-rest` of `ReadLaws`), and what the clauses of `run` say of the files that a library tells is this at
-- `L.holds lib.old`, by `reads_on` (`ForReaders.for-told`). `Leading`: what leads where (`telling`, `over-problem`, `unfetched`,
-- `over-translation`), and that what leads ends (`as-led`). `Ends.line-ends` leads from a line to how the run ends. That a reply is
-- neither a write fault nor want of memory is its ghost field `tells`, which closes alone where the status is written out; `Ends` has it
-- for the statuses that are handed on (`reading-tells`, `search-tells`). `Decisions.decided` says which runs end in an answer.
--
-- `LimitLaws`: nothing is closed within the limit 0, since each clause has a literal. `Unclosed`: what is known where no tableau is closed
-- (`unclosed`, `never-closed`), by the laws of `string_theory`, `derivation_theory` and `decision_theory`; `Theorems`: what a derivation
-- makes of its problem. `Laws`: what `run` names of the bounds (`both-ends`: two ends of a search agree, by cases). `Searches`: what
-- deepening answers is what ends the search (`searched`). `Budgets.not_steps_ended`: a
-- budget of at least the members of the space up to the limit of the answer does not end the search, since that limit is behind those that
-- were passed, and what comes no later is a member up to it. `Cuts`: where the search finds nothing that does not return to solved goals,
-- its budget ended it or there was nothing to find (`missed-open`, `missed-steps`); there is one least cut (`cut-unique`), and a run for
-- which the budget allows that search ends with it (`prove-by_cut`, `tableau-by_cut`), since every other end has a closed tableau less than
-- a cut has, or more members than the budget. `Refusals`: `read_as` and `refused_as`, what is read and why reading ends, by the answer of
-- `build`; `fetched_as`, `missing_as`, `unread_as` for a second file. `Opening`: what is read is of the problem's files, or the second one
-- (`first-alone`, `both-read`). `Ends`: `line-counted` and `search-counted`, since a search fetches nothing.
-- `Decisions.for-problem`: where the files hold a problem and no fault is counted, a command ends as it does for this problem; then by the
-- cases of the command (`prove-decided`, `check-decided`, and `search-decided` for both commands that search). `NoIncludes.none-missing`:
-- no byte of a generated text is a quote (`text-unquoted`), so no token of it is a quoted name (`tokens-plain`), no item an include
-- (`items-not`), and no file is missing. `Made`: what is read of a generated text (`read_text`), and why reading it ends (`by_reading`).
-- `Tableaux`: the text of a closed tableau is accepted and has no other judgement, and its formula is true (`stated`, by `text-accepted`
-- and `tableau_judgement-unique` of `calculus` and `closed-true` of `truth_theory`), its limit can be written (`stated-limit`), and what
-- is accepted is such a text (`ends-accepted`). `ModelLaws`: what is told of a structure is the one judgement of its bytes (`ends-true`,
-- `ends-false`, `ends-bad`), or the formula has more ways than there are steps (`ends-steps`); since a text states one structure, these
-- are the ways of any that it states (`same-ways`), and a rejection is the only answer where one is right (`same-status`). `Pieces`:
-- bytes that are put piece by piece (`IsPut`, `put_piece`, `put_part`).

pub mod Pieces
pub mod LimitLaws
pub mod Budgets
pub mod Unclosed
pub mod Searches
pub mod Cuts
pub mod Refusals
pub mod Opening
pub mod NoIncludes
pub mod Made
pub mod ModelLaws
pub mod Theorems
pub mod Tableaux
pub mod Ends
pub mod Leading
pub mod Translations
pub mod Decisions
pub mod Laws
pub mod ForReaders
