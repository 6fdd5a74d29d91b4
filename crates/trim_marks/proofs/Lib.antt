-- How this crate is proved.
--
-- `CountLaws` has a list of counts as a function on numbers. `SkipLaws`: what is left out of a side is passed over as a whole from then on
-- (`IsSkipping`), so each step is looked at once; `reached_next` is one step of that loop, `run_last` one of the walk.

-- counts in a list
pub mod CountLaws
-- what is skipped where steps are left out
pub mod SkipLaws
