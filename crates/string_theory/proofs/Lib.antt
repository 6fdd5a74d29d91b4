-- How this crate is proved: the bound on strings.
--
-- Carried by `StringLaws.closed_exactly_where_spanning`: in each logic some tableau is closed within some limit exactly where some list of
-- allowed instances spans.
--
-- - *The bound on strings.* `closed_where_least`: where none of the instances can be left out, all of them are in the tableau, so the
--   bound of the tableau is that of the instances. `StringLaws.shortened`: instances that span, in S4 or intuitionistic logic, change into
--   as many that span and whose strings have at most as many characters as the old ones have pi steps. Of a label the last characters of
--   those of its beginnings are kept at which a pi step of these instances ends (`folded`, of `Folding`); steps, homes and equal labels
--   stay (`folded-append`, `folded-step`), and what is left is short (`folded-short`). Values change along their way (`value_by`),
--   eigenvariables that no instance introduces become own spares of what is left of their homes, by a change as deep as the mark
--   (`DepthLaws`). `SpotChanges`, `InstanceChanges`: the changed instances are instances; `AdmittedLaws`, `AllowedLaws`: admitted and
--   allowed as before. `BoundLaws.closed_where_shortened`: where an instance can be left out, it is, and the others begin again.

-- strings with marks left out
pub mod Folding
-- the names that instances introduce
pub mod StepNames
-- what is left of labels
pub mod FoldingLaws
-- the bound restricts nothing where strings can be shortened
pub mod BoundLaws
-- places and the labels on the way to them
pub mod PlaceLaws
-- places and their changes
pub mod SpotChanges
-- instances and their changes
pub mod InstanceChanges
-- how deep marks are changed
pub mod DepthLaws
-- changed names are admitted
pub mod AdmittedLaws
-- terms are allowed where they were
pub mod AllowedLaws
-- the bound on strings restricts nothing
pub mod StringLaws
-- long strings close no further tableau
pub mod AnyStringLaws
-- an example that computes
mod StringExamples
