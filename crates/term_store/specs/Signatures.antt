-- What a template lets its copies be built of: which names have parts of which sorts, and which sorts variables have.
use Rattle.std.specs.Prelude.{◌≡◌, ◌≤◌, ℕ, suc, List, [], ◌∷◌, length, Bool, true, ◌&&◌, Some, slice_get, slice_index_or, IsTrue}
use Rattle.std.specs.List.{list_all}
use Rattle.calculus.specs.declared.sort.Sort.{Sort}
use Rattle.calculus.specs.declared.sort.Sort.TheVariants.{TermSort, MarkSort}
use Rattle.store_theory.specs.Patterns.{HaveSortsAt, Pattern, Patterns, p_var, p_fun, p_eigen, p_new, no_patterns, more_patterns, patterns_tree, PatternAtom, PatternGamma, Template}
use Rattle.store_theory.specs.Stores.{Cell, variable, fun_cell, eigen_cell, new_cell, string_cell, Store}

-- the sorts of variables, the numbers of arguments of each function symbol, and the sorts of the parts of each other name
pub record Signature : Type 0 where
  pub sorts : Sort → Bool
  pub functions : ℕ → ℕ → Bool
  pub eigenvariables : ℕ → List Sort → Bool
  pub marks : ℕ → List Sort → Bool

-- a variable of such a sort, a function symbol with so many arguments, or a name whose parts are there and have such sorts
abbrev pub IsAllowedCell : Signature → Store → Cell → Type 0
IsAllowedCell g s (variable sort b) = IsTrue (g.sorts sort)
IsAllowedCell g s (fun_cell f rs) = IsTrue (g.functions f (length rs))
IsAllowedCell g s (eigen_cell p rs) = (ss : List Sort) × HaveSortsAt s ss rs × IsTrue (g.eigenvariables p ss)
IsAllowedCell g s (new_cell p rs) = (ss : List Sort) × HaveSortsAt s ss rs × IsTrue (g.marks p ss)
IsAllowedCell g s (string_cell rs) = ⊥

-- so are the cells from the number `base` on
abbrev pub AreAllowedFrom : Signature → ℕ → Store → Type 0
AreAllowedFrom g base s = (n : ℕ) (c : Cell) → base ≤ n → slice_get s.cells n ≡ Some c → IsAllowedCell g s c

abbrev pub number_of_patterns : Patterns → ℕ
number_of_patterns no_patterns = 0
number_of_patterns (more_patterns p ps) = suc (number_of_patterns ps)

-- the sort of a pattern, where the variables have these sorts
abbrev pub sort_of_pattern : List Sort → Pattern → Sort
sort_of_pattern sorts (p_var k) = slice_index_or sorts k TermSort
sort_of_pattern sorts (p_fun f ps) = TermSort
sort_of_pattern sorts (p_eigen p ps) = TermSort
sort_of_pattern sorts (p_new p ps) = MarkSort

abbrev pub sorts_of_patterns : List Sort → Patterns → List Sort
sorts_of_patterns sorts no_patterns = []
sorts_of_patterns sorts (more_patterns p ps) = sort_of_pattern sorts p ∷ sorts_of_patterns sorts ps

-- each name in the pattern has such parts, where the variables have these sorts
abbrev mutual
  pub allows : Signature → List Sort → Pattern → Bool
  allows g sorts (p_var k) = true
  allows g sorts (p_fun f ps) = g.functions f (number_of_patterns ps) && allows_all g sorts ps
  allows g sorts (p_eigen p ps) = g.eigenvariables p (sorts_of_patterns sorts ps) && allows_all g sorts ps
  allows g sorts (p_new p ps) = g.marks p (sorts_of_patterns sorts ps) && allows_all g sorts ps

  pub allows_all : Signature → List Sort → Patterns → Bool
  allows_all g sorts no_patterns = true
  allows_all g sorts (more_patterns p ps) = allows g sorts p && allows_all g sorts ps

abbrev pub allows_atom : Signature → List Sort → PatternAtom → Bool
allows_atom g sorts a = allows_all g sorts (patterns_tree a.args) && allows_all g sorts (patterns_tree a.label)

abbrev pub allows_gamma : Signature → List Sort → PatternGamma → Bool
allows_gamma g sorts a = allows g sorts a.term && allows_all g sorts (patterns_tree a.label)

abbrev pub allows_template : Signature → Template → Bool
allows_template g t = list_all (allows_atom g t.sorts) t.literals && allows_all g t.sorts (patterns_tree t.strings) && list_all (allows_gamma g t.sorts) t.gammas

-- what came is allowed by each signature that allows what was copied
abbrev pub BuildsWithin : (Signature → Bool) → Store → Store → Type 0
BuildsWithin copied before after = (g : Signature) (base : ℕ) → IsTrue (copied g) → AreAllowedFrom g base before → AreAllowedFrom g base after

-- the same, whatever sorts the variables have
abbrev pub BuildsOver : List ℕ → (List Sort → Signature → Bool) → Store → Store → Type 0
BuildsOver variables copied before after = (sorts : List Sort) → HaveSortsAt before sorts variables → BuildsWithin (copied sorts) before after
