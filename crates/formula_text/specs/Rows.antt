-- Terms in rows, each symbol before its arguments, and back.
use Rattle.std.specs.Prelude.{List, [], ◌∷◌, ◌++◌, take, drop, get_or, Bool, false, ◌||◌}
use Rattle.calculus.specs.Lists.{terms_tree}
use Rattle.calculus.specs.Syntax.{Term, Terms, var, fun, eigen, spare, no_terms, more_terms, arity_of}
use Rattle.formula_text.specs.declared.term_row.RowItem.{RowItem}
use Rattle.formula_text.specs.declared.term_row.RowItem.TheVariants.{Var, Fun, Eigen, Spare}

abbrev mutual
  pub row_of : Term → List RowItem
  row_of (var k) = Var k ∷ []
  row_of (fun f ts) = Fun (record { 0 = f }) (arity_of ts) ∷ rows_of ts
  row_of (eigen n) = Eigen n ∷ []
  row_of (spare n) = Spare n ∷ []

  -- the rows of the terms behind one another
  pub rows_of : Terms → List RowItem
  rows_of no_terms = []
  rows_of (more_terms t ts) = row_of t ++ rows_of ts

-- the terms whose rows stand behind one another
abbrev pub terms_in : List RowItem → List Term
terms_in [] = []
terms_in (Var k ∷ xs) = var k ∷ terms_in xs
terms_in (Fun f n ∷ xs) = fun f.0 (terms_tree (take n (terms_in xs))) ∷ drop n (terms_in xs)
terms_in (Eigen n ∷ xs) = eigen n ∷ terms_in xs
terms_in (Spare n ∷ xs) = spare n ∷ terms_in xs

-- the first of them
abbrev pub root_of : List RowItem → Term
root_of xs = get_or (terms_in xs) 0 (var 0)

-- a leaf in the row passes the test
abbrev pub any_item : (Term → Bool) → List RowItem → Bool
any_item test [] = false
any_item test (Var k ∷ xs) = test (var k) || any_item test xs
any_item test (Fun f n ∷ xs) = any_item test xs
any_item test (Eigen n ∷ xs) = test (eigen n) || any_item test xs
any_item test (Spare n ∷ xs) = test (spare n) || any_item test xs
