use Rattle.std.proofs.Common.{◌≡◌, ◌++◌, drop, map}
use Rattle.std.specs.List.{filter}
use Rattle.derivation_branch.specs.Occurring.{holds}
use Rattle.calculus.specs.Derivations.{EigenName}
use Rattle.sequent_calc.specs.NamesView.{the_eigen}
use Rattle.derivation_trim.proofs.mentioned.eigens_among.Given as goal

abbrev pub invariant-loop-name : goal.invariant-loop-name
invariant-loop-name l = l.kept ++ filter (λ (x : EigenName). holds l.numbers x.number) (map the_eigen (drop l.name-index l.names)) ≡ filter (λ (x : EigenName). holds l.numbers x.number) (map the_eigen l.names)
