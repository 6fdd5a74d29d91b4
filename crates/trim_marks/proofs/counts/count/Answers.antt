use Rattle.std.proofs.Common.{◌+◌, ◌∙◌, ap}
use Rattle.std.proofs.lemmas.List.{get_or_default}
use Rattle.trim_theory.specs.Marking.{plus_one}
use Rattle.trim_marks.proofs.CountLaws.{counted}
use Rattle.trim_marks.proofs.counts.count.Goals as goal

pub returns : goal.returns
returns c =
    let xs = c.make_room.new.counts.items in
    let x = c.index-before.result.now in
    let room = c.in_ok-make_room.ensures.room in
    counted xs c.args.number (x + 1) room (ap (λ i. i + 1) (c.index-before.ensures ∙ get_or_default xs c.args.number x 0 room)) ∙ ap (plus_one c.args.number) c.in_ok-make_room.ensures.same
