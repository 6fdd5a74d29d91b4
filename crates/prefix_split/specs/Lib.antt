-- what each step keeps of a store
pub mod Later
-- lengths of strings
pub mod Giving
-- equations of two labels
pub mod Equated
-- goals that are the same
pub mod Same
-- what meeting a demand does
pub mod Meeting
-- one list of lengths
pub mod Trying
-- lists of lengths in order
pub mod LengthLists
-- the search through them
pub mod LengthSearch
-- beginnings of labels and their order
pub mod Beginnings
-- trees of beginnings
pub mod Growing
