-- The search through the lists of lengths: where it stands, and the steps that it used.
use Rattle.std.specs.Prelude.{◌≡◌, ℕ, suc, ◌+◌, ◌-◌, ◌≤◌, List, [], ◌∷◌, ◌++◌, length}
use Rattle.std.specs.declared.cmp.Ordering.TheVariants.{Less}
use Rattle.calculus.specs.declared.setting.Logic.{Logic}
use Rattle.calculus.specs.Counting.{AtLeastMany, IsRisingListOf}
use Rattle.calculus.specs.Instances.{GammaUse}
use Rattle.calculus.specs.Space.{lengths_cmp}
use Rattle.store_theory.specs.Stores.{Store}
use Rattle.store_theory.specs.Systems.{System, AreEarly, AreTried, HasSolution, bound_of}
use Rattle.prefix_split.specs.LengthLists.{least_of, spread_of}

-- the lengths that are tried are those from x up to x + p
pub record IsRangeOf (l : Logic) (y : System) (x p : ℕ) : Type 0 where
  pub least : x ≡ least_of l
  pub spread : p ≡ spread_of l (bound_of y)

-- no list before this one has a solution, and from `begun` on a step was used for each list of a rising list of early ones that ends here
pub record StandsAt (l : Logic) (Demanded : List GammaUse → Type 0) (s : Store) (y : System) (ns : List ℕ) (begun used : ℕ) : Type 0 where
  pub tried : AreTried l y ns
  pub none : (ms : List ℕ) → AreTried l y ms → lengths_cmp ms ns ≡ Less → ¬ HasSolution l Demanded s y ms
  pub done : List (List ℕ)
  pub early : IsRisingListOf lengths_cmp (AreEarly l Demanded s y) (done ++ ns ∷ [])
  pub count : used ≡ begun + suc (length done)

-- at most one step was used for each early list
pub record IsCounted (l : Logic) (Demanded : List GammaUse → Type 0) (s : Store) (y : System) (begun used : ℕ) : Type 0 where
  pub from : begun ≤ used
  pub early : AtLeastMany lengths_cmp (AreEarly l Demanded s y) (used - begun)
