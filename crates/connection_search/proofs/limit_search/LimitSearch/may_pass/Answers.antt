use Rattle.std.proofs.Common.{arith}
use Rattle.connection_search.proofs.limit_search.LimitSearch.may_pass.Goals as goal

pub returns-clause-near : goal.returns-clause-near
returns-clause-near c = λ t x g. let e = c.room-room.ensures x g in let o = c.if-room-gt1.false in omega (arith, e, o)
