-- the size of a translation
pub mod TranslationMeasures
-- a translated formula by the connective over its parts
pub mod TranslationParts
-- the steps that a derivation becomes
pub mod Transfer
-- the same by the way of the code
pub mod Sketch
pub mod ImagesView
pub mod BranchView
pub mod OutView
-- the images of the items of rows
pub mod RowImages
