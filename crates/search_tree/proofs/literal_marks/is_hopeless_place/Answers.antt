use Rattle.std.proofs.Common.{arith}
use Rattle.matrix_build.specs.MatrixView.{the_place}
use Rattle.search_tree.proofs.AheadLaws.{place-hopeless, unequal, wanting}
use Rattle.search_tree.proofs.literal_marks.is_hopeless_place.Goals as goal

pub returns : goal.returns
returns c = λ t g meets marked.
    let (b, set, none) = wanting c.needs-needs.result c.args.marks (omega arith) (omega arith) (unequal _ c.args.marks t) in
    place-hopeless c.args.matrix.now (the_place c.args.place) g c.needs-needs.result c.args.marks b c.needs-needs.ensures meets marked set none
