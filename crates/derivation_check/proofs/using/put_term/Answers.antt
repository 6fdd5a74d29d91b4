use Rattle.std.proofs.Common.{◌<◌, arith}
use Rattle.derivation_check.proofs.Keeping.{value-put}
use Rattle.derivation_check.proofs.PutLaws.{again-put}
use Rattle.derivation_check.proofs.using.put_term.Goals as goal

pub put_again-requires-clause-earlier : goal.put_again-requires-clause-earlier
put_again-requires-clause-earlier c = (c.requires.put (omega (arith, c.if-earlier-eq0.false))).0

pub returns : goal.returns
returns c =
    let table = c.args.substitutions.now in
    let more = c.put_again.new.self in
    let t = c.args.t.now in
    let some : 0 < c.args.earlier = omega (arith, c.if-earlier-eq0.false) in
    let h = value-put table more c.args.outer c.in_ok-place.place t c.requires.within c.in_ok-place.ensures.place (again-put table more t c.args.outer c.args.earlier some c.requires.put c.in_ok-place.ensures.put) c.in_ok-place.ensures.others in
    record { within = h.within; put = h.put; grown = h.grown }
