use Rattle.std.proofs.Common.{◌∙◌, refl, sym}
use Rattle.search_tree.proofs.PointLaws.{extension-next, place-left, places-remain}
use Rattle.search_tree.proofs.point.Point.take_place.Goals as goal

pub returns-clause-next : goal.returns-clause-next
returns-clause-next c = λ m d g xs e h.
    let n = places-remain c.args.self.now (sym c.has_no_extension.ensures ∙ c.if-has_no_extension.false) in
    let w = extension-next m d c.args.self.now _ g xs _ h n (place-left m d c.args.self.now g xs c.args.places.now _ h n e) refl refl in
    (w.extends, (w.rest, w.are, w.has_rest))
