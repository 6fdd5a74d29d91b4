-- The standings of the definitions that those of the program stand for.
use Rattle.std.specs.Prelude.{map}
use Rattle.domain_cond.specs.Standings as tree
use Rattle.domain_cond.specs.declared.standing.Standing.{Standing}
use Rattle.term_store.specs.RefView.{the_place}

abbrev pub the_standing : Standing → tree.Standing
the_standing t = record { leaves = map the_place t.leaves.items; marks = map the_place t.marks.items }
