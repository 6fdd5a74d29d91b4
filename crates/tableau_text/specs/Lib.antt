pub mod MovesView
-- the text of values
pub mod Items
pub mod Tokens
pub mod Points
pub mod ItemView
pub mod OpenView
pub mod Pieces
-- the text of lines
pub mod MoveLines
pub mod Sides
pub mod Reading
