-- What stands in gamma terms, and the marks of their labels.
use Rattle.std.specs.Prelude.{◌≡◌, ℕ, List, [], ◌∷◌, Bool, None, Some, length, slice_get, if◌then◌else◌}
use Rattle.std.specs.List.{list_any}
use Rattle.calculus.specs.declared.sort.Sort.TheVariants.{TermSort}
use Rattle.store_theory.specs.Stores.{variable, fun_cell, Store, Solution, Holds, GammaCell}
use Rattle.store_theory.specs.Systems.{AreEqual, AreEqualNow}
use Rattle.search_theory.specs.Demanding.{HasNoConstant, HomesAgree, equation}
use Rattle.search_theory.specs.MarkLists.{IsFlat}
use Rattle.search_theory.specs.SpareRules.{HasNoNeedCycle, homes}
use Rattle.search_theory.specs.HomesTold.{TellsHomes}
use Rattle.domain_cond.specs.Leaves.{AreLeaves, is_among}

pub record Standing : Type 0 where
  pub leaves : List ℕ
  pub marks : List ℕ

-- these are the leaves of the gamma term, and the marks of its label
pub record IsStanding (s : Store) (g : GammaCell) (t : Standing) : Type 0 where
  pub leaves : AreLeaves s g.term t.leaves
  pub flat : IsFlat s g.label t.marks

-- one for each gamma term
pub record AreStandings (s : Store) (gs : List GammaCell) (ts : List Standing) : Type 0 where
  pub count : length ts ≡ length gs
  pub each : (j : ℕ) (g : GammaCell) → slice_get gs j ≡ Some g → (t : Standing) × (slice_get ts j ≡ Some t) × IsStanding s g t

-- some cell is among both
abbrev pub share : List ℕ → List ℕ → Bool
share xs ys = list_any (λ x. is_among ys x) xs

-- the marks of the label of the first gamma term with this leaf
abbrev pub home_marks : List Standing → ℕ → List ℕ
home_marks [] v = []
home_marks (t ∷ ts) v = if is_among t.leaves v then t.marks else home_marks ts v

-- two gamma terms that hold one cell have equal labels
abbrev pub LabelsAgree : Store → List GammaCell → Solution → Type 0
LabelsAgree s gs σ = (i j v : ℕ) (g h : GammaCell) → slice_get gs i ≡ Some g → slice_get gs j ≡ Some h → Holds s v g.term → Holds s v h.term → AreEqual σ (equation g.label h.label)

-- the label of each gamma term that holds a variable of this one is its label already
abbrev pub AgreeWith : Store → List GammaCell → GammaCell → Type 0
AgreeWith s gs g = (j v : ℕ) (h : GammaCell) → slice_get gs j ≡ Some h → slice_get s.cells v ≡ Some (variable TermSort None) → Holds s v g.term → Holds s v h.term → AreEqualNow s (equation g.label h.label)

-- a constant stands in a gamma term
abbrev pub ConstantStands : Store → List GammaCell → Type 0
ConstantStands s gs = (j : ℕ) × (g : GammaCell) × (e : ℕ) × (f : ℕ) × (slice_get gs j ≡ Some g) × Holds s e g.term × (slice_get s.cells e ≡ Some (fun_cell f []))

abbrev pub NoConstantStands : Store → List GammaCell → Type 0
NoConstantStands s gs = (j : ℕ) (g : GammaCell) → slice_get gs j ≡ Some g → HasNoConstant s g

-- each unbound variable of the gamma terms can have a spare of its home
pub record HasOwnSpares (s : Store) (gs : List GammaCell) : Type 0 where
  pub home : ℕ → List ℕ
  pub tells : TellsHomes s gs home
  pub constants : NoConstantStands s gs
  pub agree : HomesAgree s gs
  pub no_cycle : HasNoNeedCycle (homes home) s
