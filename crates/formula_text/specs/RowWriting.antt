-- How far the text of a term has been written from its row.
use Rattle.std.specs.Prelude.{◌≡◌, ◌⊎◌, ℕ, List, [], ◌∷◌, ◌++◌, length, map, Bool, true, nat_lt, IsTrue, codes, decimal}
use Rattle.std.specs.List.{list_all}
use Rattle.calculus.specs.Syntax.{arity_of, Symbol, Term, Terms}
use Rattle.calculus.specs.Text.{args_text, more_args_text, symbol_at, term_text}
use Rattle.formula_text.specs.Known.{term_is_known, terms_are_known}
use Rattle.formula_text.specs.Rows.{row_of, rows_of}
use Rattle.formula_text.specs.declared.term_row.RowItem.{RowItem}
use Rattle.formula_text.specs.declared.term_row.RowItem.TheVariants.{Var, Fun, Eigen, Spare}

-- an item without its arguments
abbrev pub item_text : List Symbol → RowItem → List ℕ
item_text symbols (Var k) = codes "X0"
item_text symbols (Fun f n) = symbol_at symbols f.0
item_text symbols (Eigen n) = codes "$$e" ++ decimal n
item_text symbols (Spare n) = codes "$$s" ++ decimal n

abbrev pub item_arity : RowItem → ℕ
item_arity (Var k) = 0
item_arity (Fun f n) = n
item_arity (Eigen n) = 0
item_arity (Spare n) = 0

abbrev pub item_is_known : List Symbol → RowItem → Bool
item_is_known symbols (Fun f n) = nat_lt f.0 (length symbols)
item_is_known symbols (Var k) = true
item_is_known symbols (Eigen n) = true
item_is_known symbols (Spare n) = true

-- the text of the arguments that are to come, of each open term from the outermost on, which is written last
abbrev pub left_text : List Symbol → List Terms → List ℕ
left_text symbols [] = []
left_text symbols (ts ∷ left) = left_text symbols left ++ more_args_text symbols 0 ts

abbrev pub left_rows : List Terms → List RowItem
left_rows [] = []
left_rows (ts ∷ left) = left_rows left ++ rows_of ts

abbrev pub are_known : List Symbol → List Terms → Bool
are_known symbols left = list_all (terms_are_known symbols) left

-- the arguments that are to come, by their counts
pub record AreLeft (symbols : List Symbol) (counts : List ℕ) (left : List Terms) : Type 0 where
  pub by_count : counts ≡ map arity_of left
  pub known : IsTrue (are_known symbols left)

-- a term comes next
pub record IsBefore (symbols : List Symbol) (whole out counts : List ℕ) (rest : List RowItem) : Type 0 where
  pub term : Term
  pub left : List Terms
  pub are_left : AreLeft symbols counts left
  pub known : IsTrue (term_is_known symbols term)
  pub text : out ++ (term_text symbols 0 term ++ left_text symbols left) ≡ whole
  pub rows : rest ≡ row_of term ++ left_rows left

-- a name was written, and its arguments come next
pub record IsBetween (symbols : List Symbol) (whole out counts : List ℕ) (arity : ℕ) (rest : List RowItem) : Type 0 where
  pub args : Terms
  pub left : List Terms
  pub are_left : AreLeft symbols counts left
  pub known : IsTrue (terms_are_known symbols args)
  pub takes : arity ≡ arity_of args
  pub text : out ++ (args_text symbols 0 args ++ left_text symbols left) ≡ whole
  pub rows : rest ≡ rows_of args ++ left_rows left

-- a term is whole
pub record IsBehind (symbols : List Symbol) (whole out counts : List ℕ) (rest : List RowItem) : Type 0 where
  pub left : List Terms
  pub are_left : AreLeft symbols counts left
  pub text : out ++ left_text symbols left ≡ whole
  pub rows : rest ≡ left_rows left

-- a term comes next, or all is written
abbrev pub IsWriting : List Symbol → List ℕ → List ℕ → List ℕ → List RowItem → Type 0
IsWriting symbols whole out counts rest = IsBefore symbols whole out counts rest ⊎ ((rest ≡ []) × (out ≡ whole))
