-- the tree of a search as the program has it
pub mod Trees
-- comparing atoms and goals
pub mod Sameness
pub mod Heads
-- states
pub mod OwnStores
pub mod Running
-- lists that are given up because of one goal
pub mod GivenUp
-- choice points
pub mod Points
pub mod Seeing
pub mod Binding
pub mod Looking
pub mod Weights
-- lists that labels refute
pub mod Pruning
-- goals that no bindings close within the limit
pub mod Ahead
pub mod Uncopied
pub mod MetAtom
-- keys of goals, and goals that failed
pub mod GoalKeys
pub mod Failing
