-- Which choices a goal has: reductions by ancestors with its symbol and the other sign, and extensions by such literals of the matrix,
-- where the path has fewer goals than the limit.
use Rattle.std.specs.Prelude.{◌≡◌, ℕ, suc, List, length, not, Some, slice_get, nat_lt, Contains, IsTrue}
use Rattle.calculus.specs.declared.sign.Sign.TheVariants.{F}
use Rattle.calculus.specs.declared.sign.Side.{Side}
use Rattle.calculus.specs.Syntax.{Problem}
use Rattle.calculus.specs.Equality.{sign_eq}
use Rattle.calculus.specs.Clauses.{selections}
use Rattle.calculus.specs.Choices.{Choice, reduction, extension}
use Rattle.store_theory.specs.Systems.{CellAtom}
use Rattle.store_theory.specs.Patterns.{PatternAtom, Template}
use Rattle.store_theory.specs.Templates.{IsTemplateOf}
use Rattle.search_theory.specs.States.{CellGoal}

-- the template has a literal at the place with the goal's symbol and the other sign
pub record MeetsAt (t : Template) (place : ℕ) (goal : CellAtom) : Type 0 where
  pub literal : PatternAtom
  pub stands : slice_get t.literals place ≡ Some literal
  pub signs : IsTrue (not (sign_eq goal.sign literal.sign))
  pub symbols : goal.symbol ≡ literal.symbol

-- a choice that the goal may have within the limit d
pub data IsChoiceAt (P : Problem) (d : ℕ) (g : CellGoal) : Choice → Type 0 where
  by_ancestor : (k : ℕ) (a : CellAtom) → slice_get g.path k ≡ Some a → IsTrue (not (sign_eq g.literal.sign a.sign)) → g.literal.symbol ≡ a.symbol → IsChoiceAt P d g (reduction (suc k))
  by_clause : (sides : List Side) (place : ℕ) → IsTrue (nat_lt (length g.path) d) → Contains (selections P.formula F) sides → ((t : Template) → IsTemplateOf P sides t → MeetsAt t place g.literal) → IsChoiceAt P d g (extension sides place)
