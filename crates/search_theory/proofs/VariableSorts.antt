-- The variables of a copy have the sorts of the template, in the store and in each store that goes on from it.
use Rattle.std.proofs.Common.{◌≡◌, ℕ, List, [], ◌∷◌, true, false, IsTrue, refl, ◌∙◌, ap, Option, Some, option_map, slice_get}
use Rattle.std.specs.List.{list_all}
use Rattle.std.specs.Option.{option_map_or}
use Rattle.std.proofs.lemmas.Bool.{and_from}
use Rattle.calculus.specs.declared.sort.Sort.{Sort}
use Rattle.calculus.specs.declared.sort.Sort.TheVariants.{TermSort, MarkSort, StringSort}
use Rattle.calculus.specs.Equality.{sort_eq}
use Rattle.store_theory.specs.Stores.{Store, sort_of, has_sort_at}
use Rattle.store_theory.specs.Patterns.{HaveSortsAt}
use Rattle.search_theory.specs.StateSystems.{string_cells}

-- a store that keeps the sorts of cells keeps these
pub sorts-kept : (old new : Store) → ((r : ℕ) (sort : Sort) → option_map sort_of (slice_get old.cells r) ≡ Some sort → option_map sort_of (slice_get new.cells r) ≡ Some sort) → (sorts : List Sort) (rs : List ℕ) → HaveSortsAt old sorts rs → HaveSortsAt new sorts rs
sorts-kept old new k [] rs h = h
sorts-kept old new k (sort ∷ sorts) rs (r, qs, e, at, more) = (r, qs, e, k r sort at, sorts-kept old new k sorts qs more)

sort-there : (s : Store) (r : ℕ) (x sort : Sort) → option_map sort_of (slice_get s.cells r) ≡ Some sort → has_sort_at s x r ≡ sort_eq x sort
sort-there s r x sort e = ap (λ (o : Option Sort). option_map_or (sort_eq x) o false) e

-- the strings among them are strings
pub strings-sorted : (s : Store) (sorts : List Sort) (rs : List ℕ) → HaveSortsAt s sorts rs → IsTrue (list_all (has_sort_at s StringSort) (string_cells sorts rs))
strings-sorted s [] rs h = refl
strings-sorted s (sort ∷ sorts) rs (r, qs, e, at, more) = ap (λ xs. list_all (has_sort_at s StringSort) (string_cells (sort ∷ sorts) xs)) e ∙ by sort at (strings-sorted s sorts qs more)
  where
    by : (x : Sort) → option_map sort_of (slice_get s.cells r) ≡ Some x → IsTrue (list_all (has_sort_at s StringSort) (string_cells sorts qs)) → list_all (has_sort_at s StringSort) (string_cells (x ∷ sorts) (r ∷ qs)) ≡ true
    by TermSort a m = m
    by MarkSort a m = m
    by StringSort a m = and_from (has_sort_at s StringSort r) (list_all (has_sort_at s StringSort) (string_cells sorts qs)) (sort-there s r StringSort StringSort a) m
