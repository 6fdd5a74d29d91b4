use Rattle.std.proofs.Common.{arith, map}
use Rattle.std.proofs.lemmas.List.{length-map}
use Rattle.matrix_build.specs.MatrixView.{the_place}
use Rattle.search_tree.proofs.AheadLaws.{hopeless-all, hopeless-next, places-clause, row-by, row-meets}
use Rattle.search_tree.proofs.literal_marks.has_no_hope_by.Goals as goal

pub loop-i-init : goal.loop-i-init
loop-i-init c = λ x es eg marked k p l. absurd (omega (arith, l))

pub is_hopeless_place-requires : goal.is_hopeless_place-requires
is_hopeless_place-requires c = places-clause c.args.matrix.now (map the_place c.places-places.result.now) c.args.symbol.0 c.other.result c.loop-i.i (the_place c.place_at-place.result) c.places-places.ensures c.place_at-place.ensures

pub loop-i-preserved : goal.loop-i-preserved
loop-i-preserved c = λ x es eg marked. hopeless-next c.args.matrix.now (map the_place c.places-places.result.now) x c.loop-i.i (the_place c.place_at-place.result) (row-by c.args.matrix.now (map the_place c.places-places.result.now) c.args.symbol.0 c.args.sign c.other.result x c.places-places.ensures c.other.ensures es eg) c.place_at-place.ensures (c.is_hopeless_place.ensures c.if-not-is_hopeless_place.false x (row-meets c.args.matrix.now (map the_place c.places-places.result.now) x c.loop-i.i (the_place c.place_at-place.result) (row-by c.args.matrix.now (map the_place c.places-places.result.now) c.args.symbol.0 c.args.sign c.other.result x c.places-places.ensures c.other.ensures es eg) c.place_at-place.ensures) marked) (c.loop-i.invariant x es eg marked)

pub returns : goal.returns
returns c = λ t x es eg marked. let l = length-map c.places-places.result.now the_place in hopeless-all c.args.matrix.now (map the_place c.places-places.result.now) x c.loop-i.i (row-by c.args.matrix.now (map the_place c.places-places.result.now) c.args.symbol.0 c.args.sign c.other.result x c.places-places.ensures c.other.ensures es eg) (omega (arith, l)) (c.loop-i.invariant x es eg marked)
