-- What the literals of clauses need above them, where no extension closes them: their symbols under the other signs, marked by bits.
use Rattle.std.specs.Prelude.{◌≡◌, ℕ, List, length, Some, slice_get}
use Rattle.std.specs.Int.{bit_at}
use Rattle.calculus.specs.Kinds.{other}
use Rattle.search_theory.specs.Ahead.{bit_of}
use Rattle.search_theory.specs.Matrix.{MatrixClause}
use Rattle.store_theory.specs.Patterns.{PatternAtom}

-- the bit of a literal's symbol under the other sign
abbrev pub needed : PatternAtom → ℕ
needed q = bit_of q.symbol (other q.sign)

-- the bits of these literals are set, and no others
pub record AreNeeds (qs : List PatternAtom) (needs : ℕ) : Type 0 where
  pub each : (i : ℕ) (q : PatternAtom) → slice_get qs i ≡ Some q → bit_at needs (needed q) ≡ 1
  pub only : (bit : ℕ) → bit_at needs bit ≡ 1 → (i : ℕ) × (q : PatternAtom) × (slice_get qs i ≡ Some q) × (bit ≡ needed q)

-- each clause has those of its literals
pub record AreAllNeeds (all : List ℕ) (m : List MatrixClause) : Type 0 where
  pub count : length all ≡ length m
  pub each : (k : ℕ) (c : MatrixClause) (needs : ℕ) → slice_get m k ≡ Some c → slice_get all k ≡ Some needs → AreNeeds c.template.literals needs
