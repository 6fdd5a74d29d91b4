use Rattle.std.proofs.Common.{◌≡◌, [], drop, get_or, not}
use Rattle.std.specs.List.{list_any}
use Rattle.calculus.specs.Derivations.{character_eq}
use Rattle.calculus.specs.Labels.{home_allows}
use Rattle.derivation_check.proofs.allowed.is_out_of_any.Given as goal

abbrev pub invariant-loop-home : goal.invariant-loop-home
invariant-loop-home l = list_any (λ k. not (home_allows character_eq l.domains (get_or l.labels k []) (get_or l.labels l.at []))) (drop l.home-index l.homes) ≡ list_any (λ k. not (home_allows character_eq l.domains (get_or l.labels k []) (get_or l.labels l.at []))) l.homes
