-- How far the way to a position was followed by the values of a name.
use Rattle.std.specs.Prelude.{◌≡◌, ◌⊎◌, ℕ, suc, ◌+◌, List, ◌++◌, take, drop, None, Some, slice_get, IsTrue}
use Rattle.calculus.specs.declared.sort.Sort.{Sort}
use Rattle.calculus.specs.declared.sort.Sort.TheVariants.{TermSort, StringSort}
use Rattle.calculus.specs.declared.kind.Shape.{Shape}
use Rattle.calculus.specs.declared.kind.Shape.TheVariants.{Alpha, Beta, Gamma, Delta, Literal}
use Rattle.calculus.specs.declared.kind.ModalPart.{ModalPart}
use Rattle.calculus.specs.declared.kind.ModalPart.TheVariants.{Plain, Nu, Pi}
use Rattle.store_theory.specs.Stores.{Store, has_sort_at, new_cell}
use Rattle.calculus.specs.declared.setting.Logic.{Logic}
use Rattle.store_theory.specs.Systems.{is_label}
use Rattle.calculus.specs.Kinds.{Signed}
use Rattle.tableau_core.specs.InsideView.{Inside, LeadsOn}
use Rattle.term_unify.specs.Flat.{HasNoString}
use Rattle.calculus.specs.Syntax.{Problem}
use Rattle.search_theory.specs.Demanding.{IsHomeAt}
use Rattle.search_theory.specs.HomeCells.{CellReached, PassesModal}
use Rattle.search_theory.specs.KeepingCells.{AddsRight}
use Rattle.search_theory.specs.LabelledCells.{is_labelled_cell}

-- the label that is reached when k of the values are taken
abbrev pub reaching : List ℕ → List ℕ → ℕ → CellReached
reaching label rs k = record { label = label; taken = take k rs; rest = drop k rs }

-- the next value has this sort, and n are taken with it
abbrev pub TakesValue : Store → Sort → List ℕ → ℕ → ℕ → Type 0
TakesValue s sort rs k n = (r : ℕ) × (slice_get rs k ≡ Some r) × IsTrue (has_sort_at s sort r) × (n ≡ suc k)

-- there is no next value, or it has another sort
abbrev pub LacksValue : Store → Sort → List ℕ → ℕ → Type 0
LacksValue s sort rs k = (slice_get rs k ≡ None) ⊎ ((r : ℕ) × (slice_get rs k ≡ Some r) × (¬ IsTrue (has_sort_at s sort r)))

-- a nu position takes a string
abbrev pub TakesString : Store → ModalPart → List ℕ → ℕ → ℕ → Type 0
TakesString s Plain rs k n = n ≡ k
TakesString s Nu rs k n = TakesValue s StringSort rs k n
TakesString s Pi rs k n = n ≡ k

abbrev pub LacksString : Store → ModalPart → List ℕ → ℕ → Type 0
LacksString s Plain rs k = ⊥
LacksString s Nu rs k = LacksValue s StringSort rs k
LacksString s Pi rs k = ⊥

-- a gamma position takes a term
abbrev pub TakesTerm : Store → Shape → List ℕ → ℕ → ℕ → Type 0
TakesTerm s Gamma rs k n = TakesValue s TermSort rs k n
TakesTerm s Alpha rs k n = n ≡ k
TakesTerm s Beta rs k n = n ≡ k
TakesTerm s Delta rs k n = n ≡ k
TakesTerm s Literal rs k n = n ≡ k

abbrev pub LacksTerm : Store → Shape → List ℕ → ℕ → Type 0
LacksTerm s Gamma rs k = LacksValue s TermSort rs k
LacksTerm s Alpha rs k = ⊥
LacksTerm s Beta rs k = ⊥
LacksTerm s Delta rs k = ⊥
LacksTerm s Literal rs k = ⊥

-- the label grew by what the modal part adds, over the new store
pub record IsPushed (l : Logic) (old new : Store) (m : ModalPart) (q : ℕ) (rs : List ℕ) (k : ℕ) (before after : List ℕ) : Type 0 where
  pub passes : (n : ℕ) → TakesString old m rs k n → PassesModal l new q m (reaching before rs k) (reaching after rs n)
  pub sorted : IsTrue (is_label old before) → IsTrue (is_label new after)
  pub free : IsTrue (is_label old before) → HasNoString old rs → HasNoString old before → HasNoString new after

-- what is added past the modal part is built right where a mark of the position, named by the values taken, would be
abbrev pub PushesRight : Store → Store → ModalPart → ℕ → List ℕ → ℕ → List ℕ → List ℕ → Type 0
PushesRight old new m q rs k before after = (P : Problem) → (m ≡ Pi → IsTrue (is_labelled_cell P old (new_cell q (take k rs)))) → AddsRight P (rs ++ before) old new after

-- the label ks is the home of the name of the position p with the values rs
pub record IsFoundHome (P : Problem) (old new : Store) (p : ℕ) (rs ks : List ℕ) : Type 0 where
  pub home : IsHomeAt P new p rs ks
  pub sorted : IsTrue (is_label new ks)
  pub free : HasNoString old rs → HasNoString new ks

-- the way goes on from the position q to this one, which is the place `place` counted from there
abbrev pub IsBelow : ℕ → ℕ → List Signed → Inside → Type 0
IsBelow q place cs i = (j : Inside) × LeadsOn place cs j × (i ≡ record { sign = j.sign; formula = j.formula; further = q + j.further; place = j.place })
