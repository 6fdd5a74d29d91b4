-- The terms, formulas and entries that those of the program stand for, over a table of substitutions and one of labels.
use Rattle.std.specs.Prelude.{ℕ, ◌<◌, List, [], length, map, get_or}
use Rattle.calculus.specs.Derivations as derivation
use Rattle.calculus.specs.Kinds.{Signed, signed}
use Rattle.calculus.specs.Lists.{terms_tree}
use Rattle.calculus.specs.Syntax as tree
use Rattle.formula_core.specs.FormulaView.{the_formula}
use Rattle.derivation_branch.specs.Putting.{term_with_all, formula_with_all}
use Rattle.derivation_branch.specs.declared.comparison.Head.{Head}
use Rattle.derivation_branch.specs.declared.comparison.Head.TheVariants.{Row, Var, Fun, Eigen, Spare}
use Rattle.derivation_branch.specs.declared.entry.SharedEntry.{SharedEntry}

-- a term under the substitution at a place
abbrev pub term_under : List (List tree.Term) → ℕ → tree.Term → tree.Term
term_under table k t = term_with_all (get_or table k []) 0 t

abbrev pub formula_under : List (List tree.Term) → ℕ → tree.Formula → tree.Formula
formula_under table k f = formula_with_all (get_or table k []) 0 f

abbrev pub signed_under : List (List tree.Term) → ℕ → Signed → Signed
signed_under table k x = signed x.sign (formula_under table k x.formula)

abbrev pub the_head : List (List tree.Term) → Head → tree.Term
the_head table (Row t) = t.now
the_head table (Var n) = tree.var n
the_head table (Fun f ts k) = tree.fun f.0 (terms_tree (map (term_under table k) ts.now))
the_head table (Eigen n) = tree.eigen n
the_head table (Spare n) = tree.spare n

abbrev pub IsHeadWithin : ℕ → Head → Type 0
IsHeadWithin n (Fun f ts k) = k < n
IsHeadWithin n _ = Unit {0}

abbrev pub the_shared : List (List tree.Term) → List derivation.Label → SharedEntry → derivation.Entry
the_shared table labels e = record { sign = e.sign; formula = formula_under table e.substitution (the_formula e.formula.now); label = get_or labels e.label [] }

-- the substitution and the label of the entry are in the tables
abbrev pub IsWithin : List (List tree.Term) → List derivation.Label → SharedEntry → Type 0
IsWithin table labels e = (e.substitution < length table) × (e.label < length labels)
