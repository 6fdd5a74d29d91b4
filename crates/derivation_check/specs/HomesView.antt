-- The homes of names by places of the table of labels.
use Rattle.std.specs.Prelude.{⊤, ℕ, ◌==◌, Bool, true, false, not, List, [], Option, Some, None, find, get_or, is_some, nat_eq}
use Rattle.std.specs.Option.{option_map_or}
use Rattle.indexmap.specs.IndexMap.{IndexMap, get}
use Rattle.calculus.specs.Labels.{home_allows}
use Rattle.calculus.specs.Skolem.{common_spares}
use Rattle.calculus.specs.Syntax.{Problem, Term, var, fun, eigen, spare}
use Rattle.calculus.specs.Calculus.{holds_character}
use Rattle.calculus.specs.Substitution.{any_leaf}
use Rattle.calculus.specs.Derivations.{character_eq, Label, Mark, EigenName, SpareName, Names, Home, anywhere, home_at, TermArg, no_term, by_term, by_name}
use Rattle.label_table.specs.LabelTable.{IsLabelAt}
use Rattle.derivation_check.specs.declared.homes.Place.{Place}
use Rattle.derivation_check.specs.declared.homes.Place.TheVariants.{Anywhere, At}
use Rattle.derivation_check.specs.declared.homes.Homes.{Homes}

-- what is found is as it should be, and nothing is found where there is nothing
abbrev pub IsFound : {A B : Type 0} → (A → B → Type 0) → Option A → Option B → Type 0
IsFound R None None = ⊤
IsFound R (Some a) (Some b) = R a b
IsFound R _ _ = ⊥

-- by each number the first item of the list with that number is found
abbrev pub AreFound : {A B S : Type 0} → (A → B → Type 0) → (B → ℕ) → IndexMap ℕ A S → List B → Type 0
AreFound {A} {B} R number m items = (n : ℕ) → IsFound R (get nat_eq m n) (find (λ (x : B). number x == n) items)

abbrev pub IsEigenHome : List Label → ℕ → EigenName → Type 0
IsEigenHome labels k x = IsLabelAt labels k x.home

abbrev pub IsSpareHome : List Label → Place → Home → Type 0
IsSpareHome labels Anywhere anywhere = ⊤
IsSpareHome labels (At k) (home_at w) = IsLabelAt labels k w
IsSpareHome labels _ _ = ⊥

abbrev pub IsHomeOfSpare : List Label → Place → SpareName → Type 0
IsHomeOfSpare labels p x = IsSpareHome labels p x.home

abbrev pub AreEigenHomes : {S : Type 0} → List Label → IndexMap ℕ ℕ S → List EigenName → Type 0
AreEigenHomes labels homes names = AreFound (IsEigenHome labels) (λ x. x.number) homes names

abbrev pub AreSpareHomes : {S : Type 0} → List Label → IndexMap ℕ Place S → List SpareName → Type 0
AreSpareHomes labels homes names = AreFound (IsHomeOfSpare labels) (λ x. x.number) homes names

abbrev pub is_place_allowed : Problem → List Label → Place → Label → Bool
is_place_allowed P labels Anywhere v = common_spares P
is_place_allowed P labels (At k) v = home_allows character_eq P.setting.domains (get_or labels k []) v

-- a leaf that a term of a gamma step at v must not have, by the places of homes
abbrev pub is_forbidden_at : Problem → List Label → Homes → Label → Term → Bool
is_forbidden_at P labels homes v (var k) = true
is_forbidden_at P labels homes v (fun f ts) = false
is_forbidden_at P labels homes v (eigen n) = option_map_or (λ k. not (home_allows character_eq P.setting.domains (get_or labels k []) v)) (get nat_eq homes.eigens n) true
is_forbidden_at P labels homes v (spare n) = option_map_or (λ p. not (is_place_allowed P labels p v)) (get nat_eq homes.spares n) true

-- a leaf that is no listed name, by the places of homes
abbrev pub is_unknown_at : Homes → Term → Bool
is_unknown_at homes (eigen n) = not (is_some (get nat_eq homes.eigens n))
is_unknown_at homes (spare n) = not (is_some (get nat_eq homes.spares n))
is_unknown_at homes _ = false

abbrev pub is_known_at : Homes → TermArg → Bool
is_known_at homes no_term = true
is_known_at homes (by_term t) = not (any_leaf (is_unknown_at homes) t)
is_known_at homes (by_name n) = not (is_unknown_at homes (eigen n))

abbrev pub place_holds : List Label → Mark → Place → Bool
place_holds labels m Anywhere = false
place_holds labels m (At k) = holds_character m (get_or labels k [])

-- the character stands in the home of a name, by the places of homes
abbrev pub is_in_home_at : List Label → Homes → Mark → Term → Bool
is_in_home_at labels homes m (eigen n) = option_map_or (λ k. holds_character m (get_or labels k [])) (get nat_eq homes.eigens n) false
is_in_home_at labels homes m (spare n) = option_map_or (place_holds labels m) (get nat_eq homes.spares n) false
is_in_home_at labels homes m _ = false

pub record AreHomes (names : Names) (labels : List Label) (homes : Homes) : Type 0 where
  pub eigens : AreEigenHomes labels homes.eigens names.eigens
  pub spares : AreSpareHomes labels homes.spares names.spares
