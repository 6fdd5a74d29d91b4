-- How this crate is proved.
--
-- Carried by `TransferLaws.transfer-derives`: the transferred steps derive the translated problem.
--
-- Images need not tell apart what they are images of: the conditions of S4 with cumulative domains ask of labels and terms only prefixes
-- and equations, which each map keeps, and that new names are new. So all that no step introduced goes to one value (characters to
-- nothing, names to the spare constant 1), and new names are new by their numbers alone.
--
-- 1. `ImageLaws`: a map of characters to labels keeps prefixes (`prefix-image`), a map of eigenvariables commutes with instances
--    (`formula-with`), and so does the translation (`translation-with`).
-- 2. `TransferState.Fits`: for each entry one stands in S4 (`EachStands`). Its label is the image of the entry's label, and for a T atom,
--    whose steps are left out, a prefix of it. Each character in S4 has a number below the count of entries, each eigenvariable one below
--    the number of the step (`IsEarly`), which gives freshness (`new-character`, `new-eigen`). The characters of an introduced
--    eigenvariable's home occur in the sequent (`EigenFits.stays`), so its image never changes.
-- 3. `TransferSteps`: `boxed-use`, `plain-use`, `modal-use`, `atom-fits` by the kinds of formulas, `close-carried` for an axiom. Each
--    gives `Carried`: the branches after the step, which fit again, and how closings of them close the branch.
-- 4. `TransferLaws.all-carried` goes over `Closes` with the other open branches as a list; names are found since their numbers rise
--    (`rises-find`).
-- 5. `TransferWritten`: each step adds at most three entries, so counts stay at most three times the steps.
-- 6. `SketchLaws`: a branch and its sketch have the same entries where terms are left out (`bare`) and labels are replaced by their images
--    (`shade`), so all that a step makes is the same (`stepped`), and so are all steps (`sketched-same`). A character of a step on an atom
--    is no image in a sketch: it occurred nowhere before (`seen`), so it has none.
-- 7. `SketchSteps`: one step of the code is one step of the sketch, whatever steps come after it (`sketched-on`, `names-on`). `take_next`
--    says so for every rest, so the loop over the steps only hands it on. `TransferRight.sketched-right` puts the laws together for what
--    `transfer` answers.
--
-- The code keeps sketches. `ImagesLaws`, `ImagesUpdates`: `Images` by its list, latest first (`place-some`; `push-kept`). `BranchUpdates`:
-- what waits is the same when entries and images grow (`waiting-same` with `take-longer`, `latest-more`), when the table of labels grows
-- (`waiting-longer`), and when a branch is closed (`close-waiting`). `GrownLaws`: a step on what is no atom is, in the order of the code,
-- names and the count first and then the components (`grown-put`).

-- translations
pub mod TranslationSizes
pub mod TranslatedLaws
pub mod SymbolLists
pub mod Refusals
-- what is made of a derivation derives the translation
pub mod ImageLaws
pub mod TransferState
pub mod TransferParts
pub mod TransferSteps
pub mod TransferLaws
pub mod TransferWritten
-- the way of the code leads to the same
pub mod SketchLaws
pub mod SketchSteps
pub mod TransferRight
-- examples that compute
mod TransferExamples
pub mod ImagesLaws
pub mod ImagesUpdates
pub mod RowImages
pub mod BranchLaws
pub mod BranchUpdates
pub mod GrownLaws
