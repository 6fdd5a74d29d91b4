-- Patterns of a sort, where the cells of a store stand for their variables.
use Rattle.std.specs.Prelude.{ℕ, List, Bool, true, false, ◌&&◌, ◌||◌, slice_get}
use Rattle.std.specs.Option.{option_map_or}
use Rattle.calculus.specs.declared.sort.Sort.{Sort}
use Rattle.calculus.specs.declared.sort.Sort.TheVariants.{TermSort, MarkSort, StringSort}
use Rattle.calculus.specs.Equality.{sort_eq}
use Rattle.store_theory.specs.Stores.{Store, has_sort_at}
use Rattle.store_theory.specs.Patterns.{Pattern, Patterns, p_var, p_fun, p_eigen, p_new, no_patterns, more_patterns, patterns_tree, PatternAtom, PatternGamma}

abbrev mutual
  pub fits_in : Store → List ℕ → Sort → Pattern → Bool
  fits_in s variables sort (p_var k) = option_map_or (has_sort_at s sort) (slice_get variables k) false
  fits_in s variables sort (p_fun f ps) = sort_eq sort TermSort && parts_fit_in s variables TermSort false ps
  fits_in s variables sort (p_eigen p ps) = sort_eq sort TermSort && parts_fit_in s variables TermSort true ps
  fits_in s variables sort (p_new p ps) = sort_eq sort MarkSort && parts_fit_in s variables TermSort true ps

  -- each is of this sort, or also a string
  pub parts_fit_in : Store → List ℕ → Sort → Bool → Patterns → Bool
  parts_fit_in s variables sort strings no_patterns = true
  parts_fit_in s variables sort strings (more_patterns p ps) = (fits_in s variables sort p || (strings && fits_in s variables StringSort p)) && parts_fit_in s variables sort strings ps

-- of this sort, or also a string
abbrev pub part_sort_at : Store → Sort → Bool → ℕ → Bool
part_sort_at s sort strings r = has_sort_at s sort r || (strings && has_sort_at s StringSort r)

abbrev pub label_fits_in : Store → List ℕ → List Pattern → Bool
label_fits_in s variables ps = parts_fit_in s variables MarkSort true (patterns_tree ps)

abbrev pub atom_fits_in : Store → List ℕ → PatternAtom → Bool
atom_fits_in s variables a = parts_fit_in s variables TermSort false (patterns_tree a.args) && label_fits_in s variables a.label

abbrev pub gamma_fits_in : Store → List ℕ → PatternGamma → Bool
gamma_fits_in s variables g = fits_in s variables TermSort g.term && label_fits_in s variables g.label
