use Rattle.std.proofs.Common.{◌≡◌, ◌++◌, take}
use Rattle.search_tree.specs.Looking.{bound_in, waiting_in}
use Rattle.search_tree.proofs.look.Look.add_parts.Given as goal

abbrev pub invariant-loop-i : goal.invariant-loop-i
invariant-loop-i l = record {
  waiting : waiting_in l.self ≡ waiting_in l.fn.self ++ take l.i l.parts;
  bound : bound_in l.self ≡ bound_in l.fn.self;
}
