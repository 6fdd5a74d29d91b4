-- What the domain conditions ask of the names and variables in gamma terms: the equations between the label of a gamma term and the homes of
-- what stands in it, outside the values of names.
use Rattle.std.specs.Prelude.{◌≡◌, ℕ, List, [], true, Some, None, slice_get, IsTrue}
use Rattle.calculus.specs.declared.sort.Sort.TheVariants.{TermSort}
use Rattle.calculus.specs.Syntax.{Problem}
use Rattle.calculus.specs.Ground.{GroundMark}
use Rattle.calculus.specs.Equality.{mark_eq}
use Rattle.calculus.specs.Labels.{home_allows}
use Rattle.calculus.specs.Skolem.{label_of, common_spares, is_allowed}
use Rattle.store_theory.specs.Stores.{variable, fun_cell, eigen_cell, Store, Solution, Solves, label_at, Holds, GammaCell}
use Rattle.store_theory.specs.Systems.{Equation, AreEqualNow}
use Rattle.store_theory.specs.Templates.{as_term}
use Rattle.search_theory.specs.States.{values_by}

-- the eigenvariable of the position p by the values rs has its home at the label ks
abbrev pub IsHomeAt : Problem → Store → ℕ → List ℕ → List ℕ → Type 0
IsHomeAt P s p rs ks = (σ : Solution) → Solves s σ → label_at σ ks ≡ Some (label_of P p (values_by σ rs))

abbrev pub equation : List ℕ → List ℕ → Equation
equation l r = record { left = l; right = r }

-- what stands in the term at the cell r may stand at the label w: each eigenvariable by its home, each variable by its value, and a
-- constant where common spares exist
pub record StandsAt (P : Problem) (s : Store) (σ : Solution) (w : List GroundMark) (r : ℕ) : Type 0 where
  pub eigens : (e p : ℕ) (rs : List ℕ) → Holds s e r → slice_get s.cells e ≡ Some (eigen_cell p rs) → IsTrue (home_allows mark_eq P.setting.domains (label_of P p (values_by σ rs)) w)
  pub variables : (v : ℕ) → Holds s v r → slice_get s.cells v ≡ Some (variable TermSort None) → IsTrue (is_allowed P w (as_term (σ v)))
  pub constants : (e f : ℕ) → Holds s e r → slice_get s.cells e ≡ Some (fun_cell f []) → common_spares P ≡ true

-- no constant stands in the gamma term
abbrev pub HasNoConstant : Store → GammaCell → Type 0
HasNoConstant s g = (e f : ℕ) → Holds s e g.term → ¬ (slice_get s.cells e ≡ Some (fun_cell f []))

-- two gamma terms that hold one variable have one label already
abbrev pub HomesAgree : Store → List GammaCell → Type 0
HomesAgree s gs = (i j v : ℕ) (g h : GammaCell) → slice_get gs i ≡ Some g → slice_get gs j ≡ Some h → slice_get s.cells v ≡ Some (variable TermSort None) → Holds s v g.term → Holds s v h.term → AreEqualNow s (equation g.label h.label)
