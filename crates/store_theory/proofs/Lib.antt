-- How this crate is proved.
--
-- Carried by `SolutionLaws.solution_by`: each choice of values of the right sorts for the unbound variables belongs to one ground
-- solution; so what is true of all solutions is what unification must keep.
--
-- - *No cycle by ranks.* `HasRank`: some function gives each cell a greater number than the cells that it names; each call keeps it, and
--   `HasNoCycle` follows. `solution_by`: each choice of values of the right sorts for the unbound variables belongs to one ground
--   solution.
-- - *Occurs.* `occurs-apart`: what occurs in a built cell has another value, since a part's value is a smaller tree.

pub mod StoreLaws
pub mod BindingLaws
pub mod SolutionLaws
pub mod WeightLaws
pub mod PatternLaws
-- ==== examples that compute

mod SystemExamples
mod SparesExamples
