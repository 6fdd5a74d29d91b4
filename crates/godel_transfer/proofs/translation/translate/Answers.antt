use Rattle.std.proofs.Common.{Err, refl}
use Rattle.godel_transfer.proofs.Refusals.{deep-refused, large-refused}
use Rattle.godel_transfer.proofs.translation.translate.Goals as goal

pub returns-in-Some-clause-deep : goal.returns-in-Some-clause-deep
returns-in-Some-clause-deep c = deep-refused c.refusal.result (Err c.in-Some.fault) c.in-Some.fault _ _ c.formula.ensures.formula refl c.in-Some.is c.refusal.ensures.deep

pub returns-in-Some-clause-large : goal.returns-in-Some-clause-large
returns-in-Some-clause-large c = large-refused c.refusal.result (Err c.in-Some.fault) c.in-Some.fault _ _ c.formula.ensures.formula refl c.in-Some.is c.refusal.ensures.large
