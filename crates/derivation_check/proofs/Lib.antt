-- How this crate is proved.
--
-- Carried by `StepLaws.led` and `failed`: the verdict on the rest of the steps from where the branch stands is the verdict on all of them.
--
-- `OpenSequents` keeps one branch, and forks with the length of the branch and the entry of their second branch; `the_sequents` tells the
-- open sequents under the tables of substitutions and labels. `Forks`: `waiting-alike`, `waiting-append`, `waiting-cut`, then one lemma
-- for each call.
--
-- The sets of eigenvariables and marks tell just what occurs in the current sequent, and each sequent that waits has them cut back to what
-- its last entry says (`Wait`). `Keeping`: tables grow (`wait-longer`, `waiting-longer`), sets grow (`wait-more`), a branch is closed
-- (`cut-back`); the heart is `children-told`: sets that got what a use step brings tell what occurs on each branch that it leads to.
-- `StateLaws`: `Growth` and `Used` hold what a use step is told of, with one law for each clause (`grown-kept`, `grown-shown`;
-- `used-leads`); `StepLaws` leads from a step to the verdict. `AreHomes` says that the home of each listed name is found by its number.
-- `ToldOnBranch` has labels, of steps and of homes, whose marks the set has, each with how many of the first marks have them all: `told-more`,
-- `told-longer` as sets and tables grow, `told-cut` as a branch is closed, `told-put` for one more. `branch-there`: the marks of the label
-- that a step leads to are in the set, so a home with which it begins brings nothing (`begins-there`). A leaf is judged by places
-- (`is_forbidden_at`), and `allowed-told` leads to the rules. The judgement is said by cases over `Derives` and `IsRejected`; the code
-- follows the verdict as a function (`verdict_from`), and `SequentLaws.accepted_at_iff_derives` of `calculus` leads from one to the other.
--
-- *Numbers.* A label of the text has one place in the table (`ArePlaces`: `place-put` adds one, `places-longer` keeps them), and names
-- have homes by these places. An argument by its place is that of the calculus in a longer table, too (`argument-longer`), so what
-- `use_fault` tells over the table with the step's label is told of the step (`UsedLaws.told-fault`). The names of the calculus are a list
-- that no value of the program holds: laws quantify over them.
--
-- *Names of terms.* Of each term of the text it is told once which eigenvariables it has and where its names lie (`AreNamed`); a step asks
-- that and not the term. `NamesLaws`: each question of the rules goes by the home of a leaf (`HomeTest`), so one law answers all of them
-- (`forbidden-of`, `unknown-of`, `homes-of`), and also tells that the places are within the table (`places-within`).
--
-- *Large terms.* Each stands before the empty substitution from the beginning on (`ArePut`), and a step puts the first term of that
-- substitution again, so the row is looked up once. The table grows alone, so places stay (`PutLaws`: `puts-longer`, `put-longer`).
--
-- `Accepting`: `judged-in` and `judged-fault` lead from a verdict on steps and from a fault of the text to the judgement over both
-- versions, `only-one` says that there is no other, and `accepted-in` is what `prove`, `transfer` and `migrate` cite of a text that they
-- print.

pub mod HomesLaws
pub mod NamesLaws
pub mod NodeLaws
pub mod Forks
pub mod ToldLaws
pub mod Keeping
pub mod Numbers
pub mod ArgumentLaws
pub mod StateLaws
pub mod UsedLaws
pub mod PutLaws
pub mod StepLaws
pub mod Accepting
