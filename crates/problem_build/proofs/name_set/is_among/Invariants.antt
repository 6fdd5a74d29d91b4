use Rattle.std.proofs.Common.{◌≡◌, drop}
use Rattle.std.specs.List.{list_any}
use Rattle.problem_build.specs.Expansion.{same_name}
use Rattle.problem_build.proofs.name_set.is_among.Given as goal

abbrev pub invariant-loop-item : goal.invariant-loop-item
invariant-loop-item l = list_any (same_name l.name) (drop l.item-index l.names) ≡ list_any (same_name l.name) l.names
