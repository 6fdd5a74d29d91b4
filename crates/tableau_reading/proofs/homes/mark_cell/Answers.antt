use Rattle.std.proofs.Common.{Some, ◌∙◌, ap, arith, length, refl}
use Rattle.std.proofs.lemmas.Option.{slice_get_read}
use Rattle.tableau_reading.proofs.HeldLaws.{mark-marked, mark-outside, mark-set}
use Rattle.tableau_reading.proofs.homes.mark_cell.Goals as goal

pub returns-in-Some : goal.returns-in-Some
returns-in-Some c =
    let l = c.if-place-len.true in
    let n = c.len.ensures in
    let k = c.args.first.now.ok.0 in
    mark-marked c.args.first.now.items c.args.place c.args.number c.in-Some.field-0 (slice_get_read c.args.first.now.items (length c.args.first.now.items) c.args.place c.index.result.now refl (omega (arith, l, n, k)) c.index.ensures ∙ ap Some c.in-Some.is)

pub returns-in-None : goal.returns-in-None
returns-in-None c =
    let l = c.if-place-len.true in
    let n = c.len.ensures in
    let k = c.args.first.now.ok.0 in
    mark-set c.args.first.now.items c.args.place c.args.number (slice_get_read c.args.first.now.items (length c.args.first.now.items) c.args.place c.index.result.now refl (omega (arith, l, n, k)) c.index.ensures ∙ ap Some c.in-None.is)

pub returns-else-place-len : goal.returns-else-place-len
returns-else-place-len c =
    let l = c.if-place-len.false in
    let n = c.len.ensures in
    let k = c.args.first.now.ok.0 in
    mark-outside c.args.first.now.items c.args.place c.args.number (omega (arith, l, n, k))
