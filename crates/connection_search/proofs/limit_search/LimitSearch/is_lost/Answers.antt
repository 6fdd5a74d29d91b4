use Rattle.std.proofs.Common.{arith, inl, inr}
use Rattle.connection_search.proofs.limit_search.LimitSearch.is_lost.Goals as goal

pub returns-then-room-eq0 : goal.returns-then-room-eq0
returns-then-room-eq0 c = λ t x g. let e = c.room-room.ensures x g in let z = c.if-room-eq0.true in record { none = c.may_reduce.ensures c.if-may_reduce.false x g; full = inl (omega (arith, e, z)) }

pub has_no_hope-requires : goal.has_no_hope-requires
has_no_hope-requires c = (c.requires.0, c.requires.1)

pub returns : goal.returns
returns c = λ t x g. let e = c.room-room.ensures x g in let o = c.if-room-gt1.false in record { none = c.may_reduce.ensures c.if-may_reduce.false x g; full = inr (omega (arith, e, o), c.has_no_hope.ensures t x g) }
