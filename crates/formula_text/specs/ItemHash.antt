-- What an item of a row is hashed by.
use Rattle.std.specs.Prelude.{ℕ, List}
use Rattle.std.specs.Hash as fed
use Rattle.formula_text.specs.declared.term_row.RowItem.{RowItem}
use Rattle.formula_text.specs.declared.term_row.RowItem.TheVariants.{Var, Fun, Eigen, Spare}

abbrev pub item_hashed : RowItem → List (List ℕ)
item_hashed (Var k) = fed.u32 k
item_hashed (Fun f n) = fed.u32 f.0
item_hashed (Eigen n) = fed.u32 n
item_hashed (Spare n) = fed.u32 n
