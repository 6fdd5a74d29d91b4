-- what is read off
pub mod Readable
pub mod Grounds
pub mod Waiting
pub mod Held
pub mod Reading
-- the choices of a tree and of a tableau
pub mod Listing
-- what solving labels comes to
pub mod Solving
