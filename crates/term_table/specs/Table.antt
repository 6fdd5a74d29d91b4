-- Lists of terms by their numbers, each by the lists before it.
use Rattle.std.specs.Prelude.{⊤, ℕ, suc, ◌<◌, List, [], ◌∷◌, ◌++◌, map, get_or}
use Rattle.std.specs.List.{AllByRecursion}
use Rattle.calculus.specs.Lists.{terms_tree}
use Rattle.calculus.specs.Syntax.{Term, fun, eigen, spare, no_terms}
use Rattle.term_table.specs.declared.table.TableTerm.{TableTerm}
use Rattle.term_table.specs.declared.table.TableTerm.TheVariants.{Constant, Fun, Eigen, Spare}

-- the term over these lists
abbrev pub the_table_term : List (List Term) → TableTerm → Term
the_table_term ls (Constant f) = fun f.0 no_terms
the_table_term ls (Fun f k) = fun f.0 (terms_tree (get_or ls k []))
the_table_term ls (Eigen n) = eigen n
the_table_term ls (Spare n) = spare n

-- it names a list below n, if any
abbrev pub IsBelow : ℕ → TableTerm → Type 0
IsBelow n (Constant f) = ⊤
IsBelow n (Fun f k) = k < n
IsBelow n (Eigen m) = ⊤
IsBelow n (Spare m) = ⊤

-- these lists, and those of the items behind them
unfoldable pub lists_from : List (List Term) → List (List TableTerm) → List (List Term)
lists_from ls [] = ls
lists_from ls (xs ∷ more) = lists_from (ls ++ map (the_table_term ls) xs ∷ []) more

-- the items of each list, the first of which has this number, name lists below it
unfoldable pub AreBelow : ℕ → List (List TableTerm) → Type 0
AreBelow n [] = ⊤
AreBelow n (xs ∷ more) = AllByRecursion (IsBelow n) xs × AreBelow (suc n) more
