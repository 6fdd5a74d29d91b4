use Rattle.std.proofs.Common.{◌≡◌, ◌++◌, drop}
use Rattle.store_theory.specs.Templates.{strings_from}
use Rattle.matrix_build.proofs.template.strings_of.Given as goal

abbrev pub invariant-loop-n : goal.invariant-loop-n
invariant-loop-n l = l.strings ++ strings_from l.n (drop l.n l.sorts) ≡ strings_from 0 l.sorts
