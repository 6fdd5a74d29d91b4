use Rattle.std.proofs.Common.{rules, ◌≡◌, ◌≤◌, ◌<◌, length, reverse, sym, ◌∙◌, arith}
use Rattle.std.proofs.lemmas.List.{length-reverse}
use Rattle.godel_transfer.specs.ImagesView.{place_in}
use Rattle.godel_transfer.proofs.ImagesLaws.{place-none, place-some, place-within}
use Rattle.godel_transfer.proofs.images.Images.find.Goals as goal

pub returns-then-place-eq0 : goal.returns-then-place-eq0
returns-then-place-eq0 c =
    let r = reverse c.args.self.now.items.items in
    let e : c.place-place.result ≡ place_in r c.args.number = c.place-place.ensures ∙ c.requires.images.told c.args.number in
    let none = c.if-place-eq0.true in
    sym (place-none r c.args.number (omega arith))

pub returns-then-place-len : goal.returns-then-place-len
returns-then-place-len c =
    let r = reverse c.args.self.now.items.items in
    let e : c.place-place.result ≡ place_in r c.args.number = c.place-place.ensures ∙ c.requires.images.told c.args.number in
    let within = place-within r c.args.number in
    let size = length-reverse c.args.self.now.items.items in
    let past = c.if-place-len.true in
    absurd (omega arith)

pub returns : goal.returns
returns c =
    let r = reverse c.args.self.now.items.items in
    let e : c.place-place.result ≡ place_in r c.args.number = c.place-place.ensures ∙ c.requires.images.told c.args.number in
    let some = c.if-place-eq0.false in
    place-some c.args.self.now.items.items c.args.number c.place-place.result c.index.result.now (sym e) (omega arith) (search rules)
