-- Cells that wait for those of whose values their own are made. A value is larger than those that it is made of, so what is asked for last is
-- the lightest, no cell waits for itself, and all that is asked for is made.
use Rattle.std.specs.Prelude.{◌≡◌, ◌⊎◌, ◌<◌, ℕ, suc, List, [], ◌∷◌, Bool, true, false, Option, Some, slice_get}
use Rattle.std.specs.List.{AllByRecursion}
use Rattle.calculus.specs.Sizes.{g_term_size, mark_size, mark_list_size}
use Rattle.store_theory.specs.Stores.{CellValue, a_term, a_mark, a_string, EndsAt, Solution, Store}
use Rattle.term_store.specs.declared.cell.Ref.{Ref}
use Rattle.tableau_reading.specs.Grounds.{AreSparesAt}
use Rattle.tableau_reading.specs.declared.grounds.Ground.{Ground}
use Rattle.tableau_reading.specs.declared.grounds.Grounds.{Grounds}
use Rattle.tableau_reading.specs.declared.homes.Homes.{Homes}

-- ---- what is made, and what is asked for

abbrev pub IsMadeIn : List (Option Ground) → ℕ → Type 0
IsMadeIn made r = (g : Ground) × (slice_get made r ≡ Some (Some g))

abbrev pub IsMade : Grounds → ℕ → Type 0
IsMade g r = IsMadeIn g.made.items r

-- what stands for the ends of all these cells
abbrev pub AreAllMade : Store → List (Option Ground) → List ℕ → Type 0
AreAllMade s made rs = (i k e : ℕ) → slice_get rs i ≡ Some k → EndsAt s k e → IsMadeIn made e

-- the bindings of one of these cells end there, and nothing is made for it
pub record IsUnmade (s : Store) (made : List (Option Ground)) (rs : List ℕ) (e : ℕ) : Type 0 where
  pub place : ℕ
  pub cell : ℕ
  pub there : slice_get rs place ≡ Some cell
  pub ends : EndsAt s cell e
  pub unmade : ¬ (IsMadeIn made e)

abbrev pub IsAsked : Grounds → ℕ → Type 0
IsAsked g r = slice_get g.asked.items r ≡ Some true

-- how many are not asked for
abbrev pub unasked : List Bool → ℕ
unasked [] = 0
unasked (true ∷ asked) = unasked asked
unasked (false ∷ asked) = suc (unasked asked)

-- ---- how large a value is

abbrev pub weight : CellValue → ℕ
weight (a_term t) = g_term_size t
weight (a_mark m) = mark_size m
weight (a_string w) = mark_list_size w

-- ---- the cells that wait, the last one on the top

-- each is heavier than n
abbrev pub AreHeavier : Solution → ℕ → List Ref → Type 0
AreHeavier σ n waiting = AllByRecursion (λ (r : Ref). n < weight (σ r.0)) waiting

-- each is lighter than n
abbrev pub AreLighter : Solution → ℕ → List Ref → Type 0
AreLighter σ n waiting = AllByRecursion (λ (r : Ref). weight (σ r.0) < n) waiting

abbrev pub AreFalling : Solution → List Ref → Type 0
AreFalling σ [] = Unit {0}
AreFalling σ (r ∷ waiting) = AreLighter σ (weight (σ r.0)) waiting × AreFalling σ waiting

abbrev pub Waits : List Ref → ℕ → Type 0
Waits [] k = ⊥
Waits (r ∷ waiting) k = (r.0 ≡ k) ⊎ Waits waiting k

-- each is lighter than those below it, and what is asked for and not made is among them
pub record AreWaiting (σ : Solution) (g : Grounds) (waiting : List Ref) : Type 0 where
  pub falling : AreFalling σ waiting
  pub known : (k : ℕ) → IsAsked g k → IsMade g k ⊎ Waits waiting k

-- so it is by the values with own spares
abbrev pub WaitBySpares : Store → Homes → Grounds → List Ref → Type 0
WaitBySpares s h g waiting = (σ : Solution) → AreSparesAt s h σ → AreWaiting σ g waiting
