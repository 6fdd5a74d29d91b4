-- Which patterns build right cells, where the variables have given sorts: names with their arities, and with values of the sorts of the way
-- to their position.
use Rattle.std.specs.Prelude.{List, [], ◌∷◌, map, Bool, true, ◌&&◌, IsTrue, slice_index_or}
use Rattle.std.specs.List.{list_all}
use Rattle.calculus.specs.declared.sort.Sort.{Sort}
use Rattle.calculus.specs.declared.sort.Sort.TheVariants.{TermSort, MarkSort}
use Rattle.calculus.specs.Syntax.{Problem}
use Rattle.calculus.specs.Ground.{Value, common, g_spare_mark, no_marks, more_marks, term, steps}
use Rattle.calculus.specs.Skolem.{has_function, is_delta_position, is_pi_position, fits_way}
use Rattle.store_theory.specs.Patterns.{Pattern, Patterns, p_var, p_fun, p_eigen, p_new, no_patterns, more_patterns, patterns_tree, PatternAtom, PatternGamma, Template}
use Rattle.search_theory.specs.Regular.{number_of_patterns}

-- a value of the sort: a spare constant, or a string of one spare character
abbrev pub spare_value : Sort → Value
spare_value TermSort = term (common 0)
spare_value _ = steps (more_marks (g_spare_mark 0) no_marks)

abbrev pub spare_values : List Sort → List Value
spare_values sorts = map spare_value sorts

-- the sort of what the pattern builds, where the variables have these sorts
abbrev pub pattern_sort : List Sort → Pattern → Sort
pattern_sort sorts (p_var k) = slice_index_or sorts k TermSort
pattern_sort sorts (p_fun f ps) = TermSort
pattern_sort sorts (p_eigen p ps) = TermSort
pattern_sort sorts (p_new p ps) = MarkSort

abbrev pub pattern_sorts : List Sort → Patterns → List Sort
pattern_sorts sorts no_patterns = []
pattern_sorts sorts (more_patterns p ps) = pattern_sort sorts p ∷ pattern_sorts sorts ps

-- each function symbol is one of the problem with its arity; each eigenvariable belongs to a delta position and each character to a pi
-- position, with values of the sorts of the way to it
abbrev mutual
  pub is_right_pattern : Problem → List Sort → Pattern → Bool
  is_right_pattern P sorts (p_var k) = true
  is_right_pattern P sorts (p_fun f ps) = has_function P.symbols f (number_of_patterns ps) && are_right_patterns P sorts ps
  is_right_pattern P sorts (p_eigen p ps) = is_delta_position P p && fits_way P p (spare_values (pattern_sorts sorts ps)) && are_right_patterns P sorts ps
  is_right_pattern P sorts (p_new p ps) = is_pi_position P p && fits_way P p (spare_values (pattern_sorts sorts ps)) && are_right_patterns P sorts ps

  pub are_right_patterns : Problem → List Sort → Patterns → Bool
  are_right_patterns P sorts no_patterns = true
  are_right_patterns P sorts (more_patterns p ps) = is_right_pattern P sorts p && are_right_patterns P sorts ps

-- the arguments and the label of an atom
abbrev pub is_right_atom : Problem → List Sort → PatternAtom → Bool
is_right_atom P sorts a = are_right_patterns P sorts (patterns_tree a.args) && are_right_patterns P sorts (patterns_tree a.label)

-- a gamma term and its label
abbrev pub is_right_gamma : Problem → List Sort → PatternGamma → Bool
is_right_gamma P sorts g = is_right_pattern P sorts g.term && are_right_patterns P sorts (patterns_tree g.label)

-- all patterns of the template
pub record AreRight (P : Problem) (t : Template) : Type 0 where
  pub literals : IsTrue (list_all (is_right_atom P t.sorts) t.literals)
  pub strings : IsTrue (are_right_patterns P t.sorts (patterns_tree t.strings))
  pub gammas : IsTrue (list_all (is_right_gamma P t.sorts) t.gammas)
