-- One list of lengths.
use Rattle.std.specs.Prelude.{ℕ, List}
use Rattle.std.specs.List.{AllByRecursion}
use Rattle.store_theory.specs.Stores.{Solution}
use Rattle.store_theory.specs.Systems.{System, AreEqual, HaveLengths}

-- the strings have these lengths, and the equations hold
abbrev pub IsSetTo : System → List ℕ → Solution → Type 0
IsSetTo y ns σ = HaveLengths σ y.strings ns × AllByRecursion (AreEqual σ) y.equations
