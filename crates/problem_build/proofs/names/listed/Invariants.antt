use Rattle.std.proofs.Common.{◌≡◌, ◌++◌, length}
use Rattle.std.specs.Prelude.{reverse}
use Rattle.std.specs.List.{filter}
use Rattle.problem_build.specs.Walk.{is_among, names_of}
use Rattle.problem_build.proofs.names.listed.Given as goal

abbrev pub invariant-loop-name : goal.invariant-loop-name
invariant-loop-name l =
    l.kept.items ++ filter (λ n. is_among n (names_of l.list)) (reverse l.names.items) ≡ filter (λ n. is_among n (names_of l.list)) l.fn.names.items

abbrev pub decreases-loop-name : goal.decreases-loop-name
decreases-loop-name l = length l.names.items
