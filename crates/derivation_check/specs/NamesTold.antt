-- What is told of the names of a term: its eigenvariables, and the homes of its names.
use Rattle.std.specs.Prelude.{◌≡◌, ⊤, ℕ, ◌<◌, ◌||◌, ◌&&◌, not, Bool, true, false, List, [], length, get_or, nat_eq, nat_lt, Option}
use Rattle.std.specs.List.{list_any}
use Rattle.std.specs.Option.{option_map_or}
use Rattle.indexmap.specs.IndexMap.{get}
use Rattle.calculus.specs.Calculus.{holds_character, is_eigen}
use Rattle.calculus.specs.Derivations.{Label, Mark, character_eq}
use Rattle.calculus.specs.Labels.{home_allows}
use Rattle.calculus.specs.Skolem.{common_spares}
use Rattle.calculus.specs.Substitution.{any_leaf}
use Rattle.calculus.specs.Syntax.{Problem, Term, var, fun, eigen, spare}
use Rattle.derivation_branch.specs.Occurring.{holds}
use Rattle.derivation_check.specs.declared.argument.Argument.{Argument}
use Rattle.derivation_check.specs.declared.argument.Argument.TheVariants as argument_is
use Rattle.derivation_check.specs.declared.homes.Homes.{Homes}
use Rattle.derivation_check.specs.declared.homes.Place.{Place}
use Rattle.derivation_check.specs.declared.homes.Place.TheVariants.{Anywhere, At}
use Rattle.derivation_check.specs.declared.term_names.FoundNames.{FoundNames}
use Rattle.derivation_check.specs.declared.term_names.TermNames.{TermNames}

-- what a test says of a leaf: of a variable, of a name that is not listed, and of one by its home
pub record HomeTest : Type 0 where
  pub variable : Bool
  pub unknown : Bool
  pub anywhere : Bool
  pub at : ℕ → Bool

abbrev pub at_place : HomeTest → Place → Bool
at_place test Anywhere = test.anywhere
at_place test (At k) = test.at k

abbrev pub by_place : HomeTest → Option Place → Bool
by_place test home = option_map_or (at_place test) home test.unknown

abbrev pub by_home : Homes → HomeTest → Term → Bool
by_home homes test (var k) = test.variable
by_home homes test (fun f ts) = false
by_home homes test (eigen n) = option_map_or test.at (get nat_eq homes.eigens n) test.unknown
by_home homes test (spare n) = by_place test (get nat_eq homes.spares n)

-- something that is told passes the test
abbrev pub any_told : HomeTest → TermNames → Bool
any_told test x = (x.has_variable && test.variable) || ((x.has_unknown && test.unknown) || ((x.has_anywhere && test.anywhere) || list_any test.at x.places.items))

abbrev pub any_found : HomeTest → FoundNames → Bool
any_found test x = (x.has_variable && test.variable) || ((x.has_unknown && test.unknown) || ((x.has_anywhere && test.anywhere) || list_any test.at x.places.keys))

pub record AreFoundIn (homes : Homes) (t : Term) (x : FoundNames) : Type 0 where
  pub eigen : (n : ℕ) → any_leaf (is_eigen n) t ≡ holds x.eigens.keys n
  pub home : (test : HomeTest) → any_leaf (by_home homes test) t ≡ any_found test x

pub record AreNamesOf (homes : Homes) (t : Term) (x : TermNames) : Type 0 where
  pub eigen : (n : ℕ) → any_leaf (is_eigen n) t ≡ holds x.eigens.items n
  pub home : (test : HomeTest) → any_leaf (by_home homes test) t ≡ any_told test x

-- each of the first n terms has what is told of it at its place
pub record AreFirstNamed (homes : Homes) (n : ℕ) (terms : List Term) (told : List TermNames) : Type 0 where
  pub count : length told ≡ n
  pub each : (k : ℕ) (x : TermNames) → k < n → x ≡ get_or told k x → AreNamesOf homes (get_or terms k (spare 0)) x

abbrev pub AreNamed : Homes → List Term → List TermNames → Type 0
AreNamed homes terms told = AreFirstNamed homes (length terms) terms told

-- what is told of the term of an argument stands at its place
abbrev pub IsNamed : Homes → List TermNames → Argument → Type 0
IsNamed homes told argument_is.None = ⊤
IsNamed homes told (argument_is.Term t k p) = (k < length told) × ((x : TermNames) → x ≡ get_or told k x → AreNamesOf homes t.now x)
IsNamed homes told (argument_is.Name n) = ⊤

-- ---- what is asked of a leaf

-- whether it must not stand in a term of a gamma step at v
abbrev pub forbids : Problem → List Label → Label → HomeTest
forbids P labels v = record { variable = true; unknown = true; anywhere = not (common_spares P); at = λ k. not (home_allows character_eq P.setting.domains (get_or labels k []) v) }

-- whether it is a name that is not listed
abbrev pub asks_unknown : HomeTest
asks_unknown = record { variable = false; unknown = true; anywhere = false; at = λ k. false }

-- whether the character stands in its home
abbrev pub has_character : List Label → Mark → HomeTest
has_character labels m = record { variable = false; unknown = false; anywhere = false; at = λ k. holds_character m (get_or labels k []) }

-- whether its home is past the end of a table
abbrev pub is_past : ℕ → HomeTest
is_past n = record { variable = false; unknown = false; anywhere = false; at = λ k. not (nat_lt k n) }
