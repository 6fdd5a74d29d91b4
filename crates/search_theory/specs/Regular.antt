-- Regularity of a state: two goals of a branch that are the same under the bindings.
use Rattle.std.specs.Prelude.{◌≡◌, ℕ, suc, List, [], ◌∷◌, Bool, true, false, ◌&&◌, Some, slice_get, length, map, IsTrue, drop, nat_le}
use Rattle.std.specs.List.{list_all, AllByRecursion}
use Rattle.calculus.specs.declared.sort.Sort.{Sort}
use Rattle.calculus.specs.declared.sort.Sort.TheVariants.{TermSort, MarkSort, StringSort}
use Rattle.calculus.specs.Syntax.{Problem}
use Rattle.calculus.specs.Ground.{Value, term, common}
use Rattle.calculus.specs.Skolem.{has_function, is_delta_position, fits_way, is_empty}
use Rattle.store_theory.specs.Stores.{Cell, variable, fun_cell, eigen_cell, new_cell, string_cell, Store, Solution, Solves, parts_of}
use Rattle.store_theory.specs.Systems.{CellAtom}
use Rattle.store_theory.specs.Patterns.{Pattern, Patterns, p_var, p_fun, p_eigen, p_new, no_patterns, more_patterns, patterns_tree, PatternAtom, Template}
use Rattle.search_theory.specs.States.{CellGoal, State, literal_by}

-- the same signed atom at the same label under the bindings: by each ground solution
abbrev pub AreSame : Store → CellAtom → CellAtom → Type 0
AreSame s a b = (σ : Solution) → Solves s σ → literal_by σ a ≡ literal_by σ b

-- the goal is the same as no goal of its path
abbrev pub IsNewGoal : Store → CellGoal → Type 0
IsNewGoal s g = AllByRecursion (λ (a : CellAtom). ¬ AreSame s g.literal a) g.path

-- no goal is the same as one of its path
abbrev pub HasNoSamePair : State → Type 0
HasNoSamePair S = AllByRecursion (IsNewGoal S.store) S.growth.all_goals

-- some goal is the same as one of its path
abbrev pub HasSamePair : State → Type 0
HasSamePair S = (i : ℕ) × (j : ℕ) × (g : CellGoal) × (a : CellAtom) × (slice_get S.growth.all_goals i ≡ Some g) × (slice_get g.path j ≡ Some a) × AreSame S.store g.literal a

-- ---- what a classical store keeps

-- the cell is of sort term, and what it builds is built right: a function symbol of the problem with its arity, or an eigenvariable of
-- a delta position with as many terms as there are gamma positions on the way to it
abbrev pub is_classical_cell : Problem → Cell → Bool
is_classical_cell P (variable TermSort b) = true
is_classical_cell P (variable MarkSort b) = false
is_classical_cell P (variable StringSort b) = false
is_classical_cell P (fun_cell f rs) = has_function P.symbols f (length rs)
is_classical_cell P (eigen_cell p rs) = is_delta_position P p && fits_way P p (map (λ r. term (common 0)) rs)
is_classical_cell P (new_cell p rs) = false
is_classical_cell P (string_cell rs) = false

-- such a cell that names cells from the number `base` on
abbrev pub is_own_cell : Problem → ℕ → Cell → Bool
is_own_cell P base c = is_classical_cell P c && list_all (nat_le base) (parts_of c)

-- the cells from the number `base` on are the search's own. What is below was in the store before
abbrev pub is_classical_store : Problem → ℕ → Store → Bool
is_classical_store P base s = list_all (is_own_cell P base) (drop base s.cells)

-- ---- what a classical template keeps

abbrev pub number_of_patterns : Patterns → ℕ
number_of_patterns no_patterns = 0
number_of_patterns (more_patterns p ps) = suc (number_of_patterns ps)

-- as many spare constants as there are patterns
abbrev pub spares_for : Patterns → List Value
spares_for no_patterns = []
spares_for (more_patterns p ps) = term (common 0) ∷ spares_for ps

-- a pattern for a term of the problem: each function symbol has its arity, and each eigenvariable as many terms as its position asks for
abbrev mutual
  pub is_classical_pattern : Problem → Pattern → Bool
  is_classical_pattern P (p_var k) = true
  is_classical_pattern P (p_fun f ps) = has_function P.symbols f (number_of_patterns ps) && are_classical_patterns P ps
  is_classical_pattern P (p_eigen p ps) = is_delta_position P p && fits_way P p (spares_for ps) && are_classical_patterns P ps
  is_classical_pattern P (p_new p ps) = false

  pub are_classical_patterns : Problem → Patterns → Bool
  are_classical_patterns P no_patterns = true
  are_classical_patterns P (more_patterns p ps) = is_classical_pattern P p && are_classical_patterns P ps

abbrev pub is_term_sort : Sort → Bool
is_term_sort TermSort = true
is_term_sort _ = false

-- atoms over terms at the empty label, and variables for terms
pub record IsClassicalTemplate (P : Problem) (t : Template) : Type 0 where
  pub literals : IsTrue (list_all (λ (a : PatternAtom). are_classical_patterns P (patterns_tree a.args) && is_empty a.label) t.literals)
  pub sorts : IsTrue (list_all is_term_sort t.sorts)
