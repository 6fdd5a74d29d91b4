use Rattle.std.proofs.Common.{◌≡◌, drop, map}
use Rattle.problem_build.specs.Walk.{passes, names_of}
use Rattle.problem_build.proofs.names.passes.Given as goal

abbrev pub invariant-loop-list : goal.invariant-loop-list
invariant-loop-list l = passes (map names_of (drop l.list-index l.lists)) l.name ≡ passes (map names_of l.lists) l.name
