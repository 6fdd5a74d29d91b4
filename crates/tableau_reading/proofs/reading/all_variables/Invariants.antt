use Rattle.std.proofs.Common.{◌≡◌, map}
use Rattle.store_theory.specs.Bindings.{places_from}
use Rattle.term_store.specs.RefView.{the_place}
use Rattle.tableau_reading.proofs.reading.all_variables.Given as goal

abbrev pub invariant-loop-k : goal.invariant-loop-k
invariant-loop-k l = map the_place l.refs.items ≡ places_from l.variables.first.0 l.k
