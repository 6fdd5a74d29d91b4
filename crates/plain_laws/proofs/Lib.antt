-- Plain laws: what the toolchain's library does not have of its own lists, options, booleans and numbers. `rt lemma` finds what it has.

-- laws of booleans
pub mod Booleans
-- laws of numbers and of their comparison
pub mod Numbers
-- laws of options
pub mod Options
-- laws of lists as wholes: joining, mapping, their items and lengths
pub mod Lists
-- laws of the items at places of a list, and of its parts before and behind a place
pub mod Places
-- laws of what holds of every item of a list: as a test (`all`), and as a statement (`each`)
pub mod Every
