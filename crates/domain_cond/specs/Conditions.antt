-- Equations that homes force.
use Rattle.std.specs.Prelude.{◌≡◌, ◌++◌, ℕ, List, Some, slice_get, nat_le, IsTrue}
use Rattle.std.specs.List.{AllByRecursion, flat_map, list_all}
use Rattle.calculus.specs.Equality.{mark_eq}
use Rattle.calculus.specs.Labels.{home_allows}
use Rattle.calculus.specs.Skolem.{label_of}
use Rattle.store_theory.specs.Stores.{eigen_cell, GammaCell, Store, Solution, Solves, OccursIn}
use Rattle.calculus.specs.Syntax.{Problem}
use Rattle.store_theory.specs.Systems.{Equation, AreEqual, AreEqualNow, IsOpenString, is_equation, is_label}
use Rattle.search_theory.specs.Demanding.{IsHomeAt, equation}
use Rattle.search_theory.specs.KeepingCells.{equation_cells, gamma_cells}
use Rattle.search_theory.specs.States.{label_by, values_by}
use Rattle.term_store.specs.Homes.{BeginsLabel, Home, is_home}
use Rattle.term_unify.specs.Flat.{HasNoString}

-- an equation that does not hold yet, and that each solution solves by which M holds
pub record IsForced (s : Store) (M : Solution → Type 0) (e : Equation) : Type 0 where
  pub fits : IsTrue (is_equation s e)
  pub no_open_string : (v i r : ℕ) → IsOpenString s v → slice_get (e.left ++ e.right) i ≡ Some r → ¬ OccursIn s v r
  pub unequal : ¬ AreEqualNow s e
  pub forced : (σ : Solution) → Solves s σ → M σ → AreEqual σ e

-- no solution makes its sides equal
abbrev pub IsNeverEqual : Store → Equation → Type 0
IsNeverEqual s e = (σ : Solution) → Solves s σ → ¬ AreEqual σ e

-- a number that is above no cell of these gamma terms and their labels is above none of its sides
abbrev pub NamesGammas : List GammaCell → Equation → Type 0
NamesGammas gs e = (base : ℕ) → IsTrue (list_all (nat_le base) (flat_map gamma_cells gs)) → IsTrue (list_all (nat_le base) (equation_cells e))

abbrev pub IsEigen : Store → ℕ → Type 0
IsEigen s e = (p : ℕ) × (rs : List ℕ) × (slice_get s.cells e ≡ Some (eigen_cell p rs))

-- the home of the name of the position p with the values rs allows the label
abbrev pub Allows : Problem → ℕ → List ℕ → List ℕ → Solution → Type 0
Allows P p rs label σ = IsTrue (home_allows mark_eq P.setting.domains (label_of P p (values_by σ rs)) (label_by σ label))

abbrev pub HomeAllows : Problem → Store → ℕ → List ℕ → Solution → Type 0
HomeAllows P s e label σ = (p : ℕ) (rs : List ℕ) → slice_get s.cells e ≡ Some (eigen_cell p rs) → Allows P p rs label σ

-- the home at ks allows the label exactly where it equals this part of it
pub record IsCompared (P : Problem) (s : Store) (ks label part : List ℕ) : Type 0 where
  pub sorted : IsTrue (is_label s part)
  pub free : HasNoString s part
  pub forced : (p : ℕ) (rs : List ℕ) → IsHomeAt P s p rs ks → (σ : Solution) → Solves s σ → Allows P p rs label σ → AreEqual σ (equation ks part)
  pub allows : (p : ℕ) (rs : List ℕ) → IsHomeAt P s p rs ks → AreEqualNow s (equation ks part) → (σ : Solution) → Solves s σ → Allows P p rs label σ

-- homes came to the list that are beginnings of labels by each solution of the store of which M holds
pub record AddsHomes (M : Solution → Type 0) (old new : Store) (before after : List Home) : Type 0 where
  pub labels : IsTrue (list_all (is_home old) before) → IsTrue (list_all (is_home new) after)
  pub forced : (σ : Solution) → Solves new σ → M σ → AllByRecursion (BeginsLabel σ) before → AllByRecursion (BeginsLabel σ) after
