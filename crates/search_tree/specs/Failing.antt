-- Goals that failed: keys of which no ground literals are closed within the limit.
use Rattle.std.specs.Prelude.{ℕ, List, [], ◌∷◌, IsTrue}
use Rattle.std.specs.List.{AllByRecursion}
use Rattle.calculus.specs.Choices.{Goal}
use Rattle.calculus.specs.Ground.{GroundLiteral, GroundTerm}
use Rattle.calculus.specs.Skolem.{is_admitted}
use Rattle.calculus.specs.Syntax.{Problem}
use Rattle.search_theory.specs.Closing.{IsCloseable}
use Rattle.search_theory.specs.States.{CellGoal}
use Rattle.store_theory.specs.Stores.{Store}
use Rattle.search_tree.specs.GoalKeys.{IsKeyOf, Spells}
use Rattle.search_tree.specs.declared.failed.Entry.{Entry}
use Rattle.search_tree.specs.declared.failed.Failed.{Failed}
use Rattle.search_tree.specs.declared.goal_key.KeyPart.{KeyPart}

-- a ground goal below these
abbrev pub goal_of : GroundLiteral → List GroundLiteral → Goal
goal_of x path = record { literal = x; path = path }

-- whatever admitted terms the variables stand for, the goal is not closed within d below those above it
abbrev pub KeyFails : Problem → ℕ → List KeyPart → Type 0
KeyFails P d key = (f : ℕ → GroundTerm) → ((i : ℕ) → IsTrue (is_admitted P (f i))) → (x : GroundLiteral) (path : List GroundLiteral) → Spells f key [] (x ∷ path) → ¬ IsCloseable P d (goal_of x path)

-- each key that is kept is one
abbrev pub AreFailed : Problem → ℕ → Failed → Type 0
AreFailed P d f = AllByRecursion (λ (e : Entry). KeyFails P d e.key.items) f.entries.items

-- the goal has such a key
pub record HasFailed (P : Problem) (d : ℕ) (s : Store) (x : CellGoal) : Type 0 where
  pub variables : List ℕ
  pub key : List KeyPart
  pub is_key : IsKeyOf s x variables key
  pub fails : KeyFails P d key

-- each key of the goal is one
abbrev pub MakesKeyFail : Problem → ℕ → Store → CellGoal → Type 0
MakesKeyFail P d s x = (vs : List ℕ) (key : List KeyPart) → IsKeyOf s x vs key → KeyFails P d key
