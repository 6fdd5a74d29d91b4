-- How deep the lists of a table stand inside one another, number by number.
use Rattle.std.specs.Prelude.{◌≡◌, ℕ, ◌<◌, ◌≤◌, ◌+◌, List, length}
use Rattle.std.proofs.Common.{get_or}
use Rattle.calculus.specs.Ground.{marks_tree, values_tree}
use Rattle.calculus.specs.Lists.{g_terms_tree}
use Rattle.conversion_theory.specs.Depths.{terms_depth, marks_depth, values_depth}
use Rattle.formula_core.specs.GroundLists.{GroundList, of_terms, of_marks, of_values, list_at, no_list}

abbrev pub list_depth : GroundList → ℕ
list_depth (of_terms ts) = terms_depth (g_terms_tree ts)
list_depth (of_marks ms) = marks_depth (marks_tree ms)
list_depth (of_values vs) = values_depth (values_tree vs)

-- what is known at a number, and 0 where nothing is
abbrev pub known_depth : List ℕ → ℕ → ℕ
known_depth told k = get_or told k 0

-- the depths of the first lists are known. A list is no deeper than the lists before it are many
pub record KnowsDepths (ls : List GroundList) (told : List ℕ) : Type 0 where
  pub few : length told ≤ no_list
  pub known : (k : ℕ) → k < length told → known_depth told k ≡ list_depth (list_at ls k)
  pub most : (k : ℕ) → k < length told → known_depth told k ≤ k + 1

pub record AreDepths (ls : List GroundList) (told : List ℕ) : Type 0 where
  pub knows : KnowsDepths ls told
  pub all : length told ≡ length ls
