-- How a value is looked for among worlds and elements and told of a pair of formulas, and what an answer tells.
use Rattle.std.specs.Prelude.{◌≡◌, ℕ, ◌-◌, List, [], ◌∷◌, Bool, true, false, Result, Ok, Err, if◌then◌else◌}
use Rattle.cop_base.specs.declared.ledger.Ledger.{Ledger}
use Rattle.finite_model.specs.declared.truth.StepsEnded.{StepsEnded}
use Rattle.calculus.specs.StructureTruth.{Told, told, ran_out, after_told}

-- whether two truth values are the same
abbrev pub same : Bool → Bool → Bool
same true b = b
same false true = false
same false false = true

-- whether the value is told of some item: in order, up to the first one
abbrev pub seek_told : {A : Type 0} → Bool → (A → ℕ → Told) → List A → ℕ → Told
seek_told value go [] n = told false n
seek_told value go (x ∷ xs) n = after_told (go x n) (λ b m. if same value b then told true m else seek_told value go xs m)

-- where the first has the decisive value, the answer; else what the second tells
abbrev pub decide_told : Bool → Bool → (ℕ → Told) → (ℕ → Told) → ℕ → Told
decide_told decisive answer first second n = after_told (first n) (λ b m. if same decisive b then told answer m else second m)

-- the steps that are left
abbrev pub left : Ledger → ℕ
left ledger = ledger.budget - ledger.used

-- what an answer tells: a value, or that the steps ran out
abbrev pub IsTold : Result Bool StepsEnded → Ledger → Told → Type 0
IsTold (Ok b) after t = t ≡ told b (left after)
IsTold (Err e) after t = (t ≡ ran_out) × (after.used ≡ after.budget)
