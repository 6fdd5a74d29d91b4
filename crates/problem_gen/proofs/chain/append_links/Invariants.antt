use Rattle.std.proofs.Common.{◌≡◌, ◌++◌}
use Rattle.std.specs.List.{flat_map, range_with_len}
use Rattle.calculus.specs.Families.{chain_link}
use Rattle.problem_gen.proofs.chain.append_links.Given as goal

abbrev pub invariant-loop-before : goal.invariant-loop-before
invariant-loop-before l = l.out.items ≡ l.fn.out.items ++ flat_map (chain_link l.word) (range_with_len 1 l.before)
