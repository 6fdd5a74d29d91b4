-- What a problem of files says of the formulas that pass.
use Rattle.std.specs.Prelude.{◌≡◌, List, [], ◌∷◌, Ok, IsTrue}
use Rattle.calculus.specs.declared.setting.Logic.{Logic}
use Rattle.calculus.specs.Syntax.{Symbol, Term, Problem}
use Rattle.calculus.specs.Problems.{is_modal}
use Rattle.calculus.specs.Models.{Model, IsWorld, IsModel}
use Rattle.calculus.specs.Soundness.{IsTrueOver}
use Rattle.cop_base.specs.Outside.{Files}
use Rattle.tptp_reader.specs.Sources.{Name}
use Rattle.problem_build.specs.Expansion.{equality_symbol, number_of}
use Rattle.problem_build.specs.Walk.{Passed, Reader, Walked, walk}
use Rattle.problem_build.specs.Building.{IsExactReader, premises, conjectures}
use Rattle.source_theory.specs.SourceTruth.{AreAlike, IsTrueForAll}

-- `=` is identity at each world
abbrev pub HasIdentity : {W E : Type 0} → Model W E → List Symbol → Type 0
HasIdentity {W} {E} M symbols =
    (w : W) → IsWorld M w → (x y : E) → AreAlike (IsTrue (M.holds (number_of symbols equality_symbol) w (x ∷ y ∷ []))) (x ≡ y)

abbrev pub AllAreTrue : {W E : Type 0} → Logic → Model W E → List Symbol → List Passed → W → Type 0
AllAreTrue l M symbols [] w = Unit {0}
AllAreTrue l M symbols (p ∷ ps) w = IsTrueForAll l M symbols p.body w × AllAreTrue l M symbols ps w

-- of a list with at most one formula: it is true, and there is one
abbrev pub FirstIsTrue : {W E : Type 0} → Logic → Model W E → List Symbol → List Passed → W → Type 0
FirstIsTrue l M symbols [] w = ⊥
FirstIsTrue l M symbols (p ∷ ps) w = IsTrueForAll l M symbols p.body w

-- where all premises are true the conjecture is; where there is none, not all premises are true
abbrev pub FollowsAt : {W E : Type 0} → Logic → Model W E → List Symbol → List Passed → W → Type 0
FollowsAt l M symbols items w =
    AllAreTrue l M symbols (premises items) w → FirstIsTrue l M symbols (conjectures items) w

-- In each structure of the setting in which `=` is identity: where the problem's formula is true at the root, the conjecture is true
-- there or a premise is not. So it is in all of them if the problem is true in all
pub record MeansItems (W E : Type 0) (files : Files) (name root : Name) (P : Problem) : Type 0 where
  pub read : Reader
  pub exact : IsExactReader (is_modal P.setting.logic) read
  pub reached : Walked
  pub walked : walk read files name root ≡ Ok reached
  pub where_true :
      (M : Model W E) → IsModel P M → HasIdentity M P.symbols → (names : Term → E)
      → IsTrue (M.truth names P.formula [] M.root)
      → FollowsAt P.setting.logic M P.symbols reached.progress.passed M.root
  pub follows :
      IsTrueOver W E P → (M : Model W E) → IsModel P M → HasIdentity M P.symbols
      → FollowsAt P.setting.logic M P.symbols reached.progress.passed M.root
