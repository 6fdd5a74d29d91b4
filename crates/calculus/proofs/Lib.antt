-- How this crate is proved: soundness.
--
-- Carried by `SoundnessLaws.derived-valid`: what a printable derivation derives is true at the root of each structure of its setting,
-- whatever its worlds and elements.
--
-- A sequent that no derivation closes is one whose entries all hold, T entries as true and F entries as false, in some interpretation.
-- `SoundnessLaws` starts with the formula false at the root, and each step that applies leaves such a child.
--
-- 1. A structure of any size is a `Model W E` whose truth is a value for each formula (`HasTruth`); `FiniteModels.is-model` makes a finite
--    one such a structure, from `StructureLaws.conditions` and `MemberLaws`.
-- 2. An interpretation gives each character a map from worlds to successors (`AreSteps`), and a label is followed from the root
--    (`world_of`). So each label has a world, also one that no rule introduced: in D its characters lead to a successor, chosen once
--    (`Interpretations.chosen`), else they stay. `WorldLaws`: a step between labels is a step of the relation (`step-reaches`), and where
--    a name may stand its element lies in the domain (`allowed-in`). A new character leads to its world from each world that reaches it
--    (`with_step`).
-- 3. `NamedTruth`: two truth values that say the same are equal (`for_all-same`), so truth depends on the names that occur (`truth-same`),
--    and truth of an instance is truth with the term's value (`truth-instance`).
-- 4. `SignedTruth`: what holds, by the modal part (`modal-truth`) and then by the shape (`shape-truth`). An atom of intuitionistic logic
--    is the one case where the modal part needs that the relation is reflexive and transitive; that atoms persist is needed nowhere.
-- 5. `Interpretations.Fits`: each listed name has an element of its home's domain, and spares of every domain have one fixed element
--    (`common-element`). `Extensions`: a new character gives the names in whose home it stands other elements (they stand in no formula of
--    the sequent), a new eigenvariable gets the witness.
-- 6. `StepSoundness.child-of_use`, `connected-apart`; then induction over the steps (`not-closed`).
--
-- `TautologyLaws`: truth values make a structure with one world and one element.

-- ==== laws that proofs of other crates cite

-- what the words of a logic say of each other
pub mod LogicLaws
-- equality, positions, clauses and orders
pub mod EqualityLaws
pub mod PositionLaws
pub mod ClauseLaws
pub mod SelectionLaws
pub mod OrderLaws
-- instances
pub mod SpotLaws
pub mod InstanceLaws
pub mod CasesLaws
pub mod MatrixLaws
-- tableaux, space and answer
pub mod WalkLaws
pub mod GrowthLaws
pub mod LimitLaws
pub mod SpaceLaws
pub mod AnswerLaws
-- derivations and texts
pub mod SequentLaws
pub mod VerdictLaws
pub mod TextLaws
pub mod TermTextLaws
pub mod ReadingLaws
pub mod DerivationTextLaws
pub mod FirstWrongLaws
-- places in lists
pub mod PlaceLists
-- soundness: in structures of any size, of which finite ones are a case
pub mod WorldLaws
pub mod NamedTruth
pub mod SignedTruth
pub mod Interpretations
pub mod Extensions
pub mod StepSoundness
pub mod MemberLaws
pub mod StructureLaws
pub mod FiniteModels
pub mod SoundnessLaws
pub mod TautologyLaws
-- what stands in a tableau
pub mod Members
-- ==== laws that no other crate cites: they are to check definitions, or wait for their crate

-- an instance has as many literals as its clause
pub mod SizeLaws
-- the search with cuts
pub mod CutLaws
-- the versions of a derivation's text, and the texts of structures and tableaux
pub mod VersionLaws
pub mod VersionJudgementLaws
pub mod StructureTextLaws
pub mod StructureTextUnique
pub mod StructureTruthLaws
pub mod StructureSoundness
pub mod TableauTextLaws
pub mod GroundTextLaws
pub mod TableauTextUnique
pub mod TableauWritten
-- ==== laws that are here for the reader

mod ForReaders
-- ==== examples that compute

mod SpaceExamples
mod SequentExamples
mod FormatExamples
mod OtherExamples
mod CutExamples
mod CasesExamples
mod LabelExamples
mod StructureExamples
mod SoundnessExamples
mod ModelExamples
mod Stress
