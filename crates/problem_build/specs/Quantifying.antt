-- So many existential quantifiers.
use Rattle.std.specs.Prelude.{ℕ, zero, suc}
use Rattle.calculus.specs.Syntax.{Formula, ex}

abbrev pub ex_times : ℕ → Formula → Formula
ex_times zero a = a
ex_times (suc n) a = ex (ex_times n a)
