-- How this crate is proved.
--
-- Carried by `AddedLaws.added-plain` and `added-bound`: what a use step adds to entries that point into the formula are the components
-- that the calculus adds.
--
-- - *Substitutions.* Their table is one of `Chains`, as that of labels is (`SubstitutionLaws`).
-- - *Quantifiers.* `Scope` meets variables, and an `Outline` has for each part of the formula whether it binds; `OutlineLaws` finds the
--   components of a formula in its outline (`component-one`, `component-two`).
-- - *Terms put into formulas.* `formula_with_all ts d f` puts terms one by one, the outermost first, so the component of a quantifier with
--   t is `formula_with_all (t ∷ ts) 0 a` by computing. `PuttingLaws`: `shape-all`, `modal-all`, `components-all`, `value-put` (what a
--   variable becomes), `atom-all`, `tree-all`. `UnderLaws`: atoms are compared under two substitutions, and nothing is copied.
-- - *Terms and rows.* A term under a substitution is compared with a row by what follows it there (`FollowingLaws.IsAfter`: `after-step`),
--   so only one of the two is a tree.
-- - *Numbers of names and marks.* `NumberSet` is a list of numbers that rise, which is looked through by halves, and behind it a hashed
--   set of all that came after one that did not; cut back far enough it is a list again. `RisingLaws`: what the place to which the smaller
--   ones reach tells (`there`, `none-behind`), and that a number above the last one is absent.
-- - *Large terms.* `RowSet` has the rows of the terms with 16 items or more, each once, and a binding has beside its term the place of its
--   row, from 1 (`AreNumbered`; 0 for other terms). A row is found by its hash when its term is put, and rows with one hash are compared,
--   so a number is never wrong; a term that is put again keeps its number (`put_again`).
-- - Rows of the set differ and a row tells its term, so numbers are equal exactly where the terms are (`NumberLaws.numbers-told`): two
--   variables of an axiom are compared in constant time once their bindings are reached (`Substitutions::are_equal`).
-- - *Pairs of atoms.* `SameAtoms` has the pairs of entries that closed a sequent, by the places of their formulas in the outline and of their
--   substitutions. One part of the formula stands at a place (`OutlineLaws.part-same`) and tables only grow, so a pair that is found is the
--   same atom (`SameLaws.same-found`, `same-told`).
-- - *What an instance brings.* `OccurrenceLaws.leaf-put`: a leaf stands in an instance where it stands in the formula, or in the term and
--   the quantifier binds. `GrowthLaws`: components of an entry of the branch bring nothing (`plain-grown`, `first-grown`, `second-grown`),
--   an instance brings the leaves of its term where the quantifier binds (`bound-grown`); characters are those of labels, or of the homes
--   of names that occur (`characters-apart`). `ChildLaws` says it of each branch that a use step leads to (`children-grown`,
--   `children-marked`).

pub mod FollowingLaws
pub mod PuttingLaws
pub mod NumberLaws
pub mod RisingLaws
pub mod UnderLaws
pub mod AddedLaws
pub mod OccurrenceLaws
pub mod GrowthLaws
pub mod ScopeLaws
pub mod OutlineLaws
pub mod SameLaws
pub mod ChildLaws
pub mod SubstitutionLaws
