-- How this crate is proved.
--
-- Carried by `MatrixLaws.matrix-of`: templates, one for each selection and each with the selection's ground instances, are the matrix.
--
-- The walk of a clause appends to a part, in preorder. `Adds` says what a step adds where the sides are those of a clause, and nothing
-- else, so no step asks anything of sides; that each selection has a part is `TemplateExists.template-exists` of `search_theory`, used
-- once (`MatrixLaws.matrix-of`). `PartLaws` has one law for each step (`nu-part`, `pi-part`, `gamma-part`, `beta-adds`). The position of a
-- second component comes from a table of sizes in preorder (`SizeLaws.sized-parts`, `parts-of`). Selections are built from the top down,
-- each behind the sides above it (`Behind`). The index: each clause adds to the row of a symbol and sign exactly its places (`Rows`).
-- Marks of what literals need: one for each literal, and no others (`NeedsLaws`).
--
-- Lists of patterns are made with room for their items; what is counted only as it is built, the literals and gamma terms of a clause,
-- gives its room back at the end (`Part::shrink_to_fit`).
--
-- A Skolem term or mark holds the variables taken above it, and not their terms, so it has at most 2,200 parts (two for each of 1,100
-- levels).
--
-- Positions, variables, pi steps and literals have numbers of 32 bits: each position adds at most two of them (`IsFewBefore`, `IsFewAt`),
-- and a problem's formula has at most 4,000,000 positions (`FewLaws`).

pub mod Behind
mod Examples
pub mod FewLaws
pub mod MatrixLaws
pub mod NeedsLaws
pub mod PartLaws
pub mod Rows
pub mod SizeLaws
pub mod SizeTable
