use Rattle.std.proofs.Common.{◌≡◌, length, ap, sym, ◌∙◌, arith}
use Rattle.derivation_text.proofs.PlaceLaws.{apart-by_numbers}
use Rattle.derivation_text.proofs.place_list.PlaceList.are_apart.Goals as goal

pub returns : goal.returns
returns c = λ _.
    let size : length c.args.self.now ≡ length c.deref-place-items.result.now = ap length (sym c.self.view_is) ∙ ap length (sym c.deref-place-items.ensures.value) in
    let end = c.loop-i-test.false in
    apart-by_numbers c.args.self.now (λ k lt. c.loop-i.invariant k (omega (arith, lt, size, end)))
