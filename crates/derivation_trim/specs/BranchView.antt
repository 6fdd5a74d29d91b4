-- What the first walk keeps of a branch.
use Rattle.std.specs.Prelude.{ℕ, List, map, reverse}
use Rattle.calculus.specs.Kinds as kinds
use Rattle.formula_core.specs.ComponentsView.{the_signed}
use Rattle.formula_core.specs.declared.components.Signed.{Signed}
use Rattle.trim_theory.specs.Bare.{bare_signed}
use Rattle.trim_theory.specs.Reading.{Waiting}

abbrev pub the_bare : Signed → kinds.Signed
the_bare a = bare_signed (the_signed a)

abbrev pub the_branch : List Signed → List kinds.Signed
the_branch xs = map the_bare xs

abbrev pub the_fork : ℕ × Signed → ℕ × kinds.Signed
the_fork f = (f.0, the_bare f.1)

-- the right sides that are still to come, of which the last one is the next
abbrev pub the_waiting : List (ℕ × Signed) → Waiting
the_waiting fs = map the_fork (reverse fs)
