-- What is asked of each world, and which condition of a list is the first that is broken.
use Rattle.std.specs.Prelude.{◌≡◌, ℕ, zero, suc, ◌+◌, ◌*◌, ◌^◌, List, [], ◌∷◌, length, map, min, Bool, true, not, ◌&&◌, ◌||◌, ◌==◌, nat_lt, IsTrue, Some, slice_get}
use Rattle.std.specs.List.{list_all, flat_map}
use Rattle.calculus.specs.declared.fault.StructureCause.{StructureCause}
use Rattle.calculus.specs.declared.fault.StructureCause.TheVariants as cause
use Rattle.calculus.specs.Equality.{contains}
use Rattle.calculus.specs.Structures.{Structure, truth_tables, domain_of, has_element, includes, predicate_value, successors_of, numbers_from, tuples, worlds, function_value}
use Rattle.calculus.specs.StructureText.{Condition, first_broken, is_transitive_at}
use Rattle.finite_model.specs.declared.asked.Asked.{Asked}
use Rattle.finite_model.specs.declared.asked.Asked.TheVariants.{Element, Successor, Reflexive, Transitive, Total, SameDomain, KeptDomain}
use Rattle.finite_model.specs.StructureView.{is_one}

abbrev pub holds_at : Structure → Asked → ℕ → Bool
holds_at S Element w = has_element (domain_of S w)
holds_at S Successor w = has_element (successors_of S w)
holds_at S Reflexive w = contains (successors_of S w) w
holds_at S Transitive w = is_transitive_at S w
holds_at S Total w = includes (successors_of S w) (worlds S)
holds_at S SameDomain w = includes (domain_of S w) (domain_of S 0) && includes (domain_of S 0) (domain_of S w)
holds_at S KeptDomain w = list_all (λ v. includes (domain_of S v) (domain_of S w)) (successors_of S w)

abbrev pub cause_of : Asked → StructureCause
cause_of Element = cause.EmptyDomain
cause_of Successor = cause.Serial
cause_of Reflexive = cause.Reflexive
cause_of Transitive = cause.Transitive
cause_of Total = cause.Total
cause_of SameDomain = cause.Domains
cause_of KeptDomain = cause.Domains

-- the first condition of the list that is broken stands in this line, for this cause
pub record IsFirstBroken (cs : List Condition) (place : ℕ) (why : StructureCause) : Type 0 where
  pub condition : Condition
  pub first : first_broken cs ≡ Some condition
  pub line : condition.line ≡ place
  pub cause : condition.cause ≡ why

-- ---- the places of tuples

-- the places of the tuples with one element of the list more, as far as numbers go
abbrev pub longer_places : ℕ → List ℕ → List ℕ → List ℕ
longer_places elements xs places = flat_map (λ p. map (λ x. min (p * elements + x) 18446744073709551615) xs) places

-- the places of the tuples of n elements of the list
abbrev pub tuple_places : ℕ → List ℕ → ℕ → List ℕ
tuple_places elements xs zero = 0 ∷ []
tuple_places elements xs (suc n) = longer_places elements xs (tuple_places elements xs n)

-- ---- functions and predicates at a world

-- the function keeps the world's domain
abbrev pub keeps_domain_at : Structure → ℕ → ℕ → ℕ → Bool
keeps_domain_at S f n w = list_all (λ xs. contains (domain_of S w) (function_value S f xs)) (tuples n (domain_of S w))

-- what is true of a predicate at w is true at v
abbrev pub is_kept : Structure → ℕ → ℕ → ℕ → ℕ → Bool
is_kept S p n w v = list_all (λ xs. not (predicate_value S p w xs) || predicate_value S p v xs) (tuples n (numbers_from 0 S.elements))

-- each digit 1 of a row is one in the other row
abbrev pub is_row_kept : List ℕ → List ℕ → Bool
is_row_kept [] others = true
is_row_kept (b ∷ row) [] = true
is_row_kept (b ∷ row) (c ∷ others) = (not (is_one b) || is_one c) && is_row_kept row others

-- the predicate has a row for each world with a digit for each tuple, and successors are worlds
pub record HasRows (S : Structure) (p n : ℕ) : Type 0 where
  pub rows : List (List Bool)
  pub there : slice_get S.meanings p ≡ Some (truth_tables rows)
  pub count : length rows ≡ length S.successors
  pub long : IsTrue (list_all (λ row. length row == S.elements ^ n) rows)
  pub worlds : IsTrue (list_all (λ vs. list_all (λ v. nat_lt v (length S.successors)) vs) S.successors)

abbrev pub one_world_condition : Structure → List Condition
one_world_condition S = record { line = 3; cause = cause.Worlds; holds = length S.successors == 1 } ∷ []
