-- What solving the labels of a tree comes to.
use Rattle.std.specs.Prelude.{◌≡◌, ◌-◌, ℕ}
use Rattle.calculus.specs.Counting.{MoreThan}
use Rattle.calculus.specs.Space.{lengths_cmp}
use Rattle.calculus.specs.Skolem.{common_spares}
use Rattle.store_theory.specs.Bindings.{IsWellFormed}
use Rattle.store_theory.specs.Stores.{Store}
use Rattle.calculus.specs.Syntax.{Problem}
use Rattle.store_theory.specs.Systems.{AllAllowed, AreEarly, HasBoundedSolution, OwnSparesSolve, System}
use Rattle.prefix_split.specs.Later.{IsFoundIn}
use Rattle.prefix_split.specs.declared.solving.Solved.{Solved}
use Rattle.prefix_split.specs.declared.solving.Solved.TheVariants as solved

-- what solving a system by the problem's domains comes to, where steps were used from `before` on
pub record IsSolved (P : Problem) (s : Store) (y : System) (before after budget : ℕ) (new : Store) (a : Solved) : Type 0 where
  pub none : a ≡ solved.None → ¬ HasBoundedSolution P.setting.logic (AllAllowed P) s y
  pub ended : a ≡ solved.Steps → after ≡ budget
  pub more_early : a ≡ solved.Steps → MoreThan lengths_cmp (AreEarly P.setting.logic (AllAllowed P) s y) (after - before)
  pub unchanged : ¬ (a ≡ solved.Found) → new ≡ s

-- own spares of the new store solve the system, and what it has kept of the old one
pub record IsFound (P : Problem) (s : Store) (y : System) (new : Store) : Type 0 where
  pub well : IsWellFormed new
  pub found : IsFoundIn P.setting.logic P y s new
  pub spares : OwnSparesSolve (common_spares P) P.setting.logic (AllAllowed P) new y
