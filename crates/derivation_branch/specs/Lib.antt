pub mod RowNumbers
pub mod Putting
pub mod TableView
pub mod EntryView
pub mod AddedView
pub mod Occurring
pub mod OutlineView
pub mod SameView
