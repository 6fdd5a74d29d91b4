-- The images of the items of a term's row.
use Rattle.std.specs.Prelude.{ℕ, List, get_or}
use Rattle.formula_text.specs.Rows.{row_of}
use Rattle.formula_text.specs.declared.term_row.RowItem.{RowItem}
use Rattle.formula_text.specs.declared.term_row.RowItem.TheVariants.{Var, Fun, Eigen, Spare}
use Rattle.godel_transfer.specs.Transfer.{EigenImage, eigen_image}

abbrev pub eigen_item : List EigenImage → ℕ → RowItem
eigen_item xs n = get_or (row_of (eigen_image xs n)) 0 (Spare 1)

abbrev pub item_image : List EigenImage → RowItem → RowItem
item_image xs (Var k) = Var k
item_image xs (Fun f n) = Fun f n
item_image xs (Eigen n) = eigen_item xs n
item_image xs (Spare n) = Spare 1
