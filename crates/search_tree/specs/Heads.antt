-- Where names show that a goal and a literal cannot be connected.
use Rattle.std.specs.Prelude.{◌≡◌, ℕ, List, ◌==◌, Bool, true, false, not, Some, slice_get}
use Rattle.calculus.specs.Ground.{Value}
use Rattle.store_theory.specs.Bindings.{EndsIn}
use Rattle.store_theory.specs.Patterns.{Pattern, PatternAtom, p_eigen, p_fun}
use Rattle.store_theory.specs.Stores.{Solution, Solves, Store, parts_of}
use Rattle.store_theory.specs.Systems.{CellAtom}
use Rattle.store_theory.specs.Templates.{as_term, pattern_value}
use Rattle.search_theory.specs.States.{values_by}
use Rattle.term_store.specs.declared.cell.Head.{Head}
use Rattle.term_store.specs.declared.cell.Head.TheVariants as head

-- both have a name, and the names differ
abbrev pub names_differ : Head → Pattern → Bool
names_differ (head.Fun f) (p_fun g ps) = not (f.0 == g)
names_differ (head.Fun f) (p_eigen q ps) = true
names_differ (head.Eigen p) (p_eigen q ps) = not (p.0 == q)
names_differ (head.Eigen p) (p_fun g ps) = true
names_differ _ _ = false

-- no solution makes the cell equal to a copy of the pattern
abbrev pub IsApart : Store → ℕ → Pattern → Type 0
IsApart s r q = (σ : Solution) (vs : List Value) → Solves s σ → ¬ (as_term (σ r) ≡ as_term (pattern_value vs q))

-- no solution makes the cell equal to the pattern over these variables
abbrev pub IsApartAt : Store → List ℕ → ℕ → Pattern → Type 0
IsApartAt s vs r q = (σ : Solution) → Solves s σ → ¬ (as_term (σ r) ≡ as_term (pattern_value (values_by σ vs) q))

-- a part of the cell at the end of bindings is so
abbrev pub HavePartsApart : Store → ℕ → List Pattern → Type 0
HavePartsApart s e ps = (i : ℕ) × (k : ℕ) × (q : Pattern) × EndsIn s e (λ c. slice_get (parts_of c) i ≡ Some k) × (slice_get ps i ≡ Some q) × IsApart s k q

-- an argument of the goal is
abbrev pub HasClash : Store → CellAtom → PatternAtom → Type 0
HasClash s goal p = (k : ℕ) × (r : ℕ) × (q : Pattern) × (slice_get goal.args k ≡ Some r) × (slice_get p.args k ≡ Some q) × IsApart s r q

-- both ends have a name, and the names differ
abbrev pub ends_differ : Head → Head → Bool
ends_differ (head.Fun f) (head.Fun g) = not (f.0 == g.0)
ends_differ (head.Fun f) (head.Eigen q) = true
ends_differ (head.Eigen p) (head.Eigen q) = not (p.0 == q.0)
ends_differ (head.Eigen p) (head.Fun g) = true
ends_differ _ _ = false
