-- the branch of the walk that tells how each step goes on
pub mod BranchView
-- the branches of the walk that edits
pub mod PlaceView
