use Rattle.std.proofs.Common.{◌≡◌, ◌++◌, drop, map}
use Rattle.std.specs.List.{filter}
use Rattle.derivation_branch.specs.Occurring.{holds}
use Rattle.calculus.specs.Derivations.{SpareName}
use Rattle.sequent_calc.specs.NamesView.{the_spare}
use Rattle.derivation_trim.proofs.mentioned.spares_among.Given as goal

abbrev pub invariant-loop-name : goal.invariant-loop-name
invariant-loop-name l = l.kept ++ filter (λ (x : SpareName). holds l.numbers x.number) (map the_spare (drop l.name-index l.names)) ≡ filter (λ (x : SpareName). holds l.numbers x.number) (map the_spare l.names)
