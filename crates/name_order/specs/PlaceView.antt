-- The places that those of the program stand for.
use Rattle.std.specs.Prelude.{List, map}
use Rattle.name_order.specs.Places as tree
use Rattle.name_order.specs.declared.place.Place.{Place}

abbrev pub the_place : Place → tree.Place
the_place p = record { above = p.above; modal = p.kind.modal; shape = p.kind.shape }

abbrev pub the_places : List Place → List tree.Place
the_places ps = map the_place ps
