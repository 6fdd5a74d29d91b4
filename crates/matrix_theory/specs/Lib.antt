-- ways through instances, and sets of instances that have none
pub mod Spanning
-- tableaux closed by strings of any length
pub mod AnyStrings
