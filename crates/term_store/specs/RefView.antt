-- The places that references stand for.
use Rattle.std.specs.Prelude.{ℕ, List, ◌-◌}
use Rattle.store_theory.specs.Bindings.{places_from}
use Rattle.term_store.specs.declared.cell.Ref.{Ref}
use Rattle.term_store.specs.declared.cell.Variables.{Variables}

abbrev pub the_place : Ref → ℕ
the_place r = r.0

abbrev pub the_places : Variables → List ℕ
the_places v = places_from v.first.0 (v.end.0 - v.first.0)
