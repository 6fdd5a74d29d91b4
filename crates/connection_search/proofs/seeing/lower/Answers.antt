use Rattle.std.proofs.Common.{◌-◌, arith, length, refl}
use Rattle.std.proofs.lemmas.Option.{slice_get_read}
use Rattle.connection_search.proofs.StandingLaws.{more-set}
use Rattle.connection_search.proofs.seeing.lower.Goals as goal

pub returns-then-count-gt0 : goal.returns-then-count-gt0
returns-then-count-gt0 c =
    let e = c.len-count.ensures in
    let n = c.args.points.now.ok.0 in
    let t = c.if-count-gt0.true in
    more-set c.args.goal c.args.points.now.items (c.len-count.result - 1) c.index.result.now c.see.new.self (omega (arith, e, n, t))
    (slice_get_read c.args.points.now.items (length c.args.points.now.items) (c.len-count.result - 1) c.index.result.now refl (omega (arith, e, n, t)) c.index.ensures)
    c.see.ensures
