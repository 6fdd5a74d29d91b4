use Rattle.std.proofs.Common.{rules}
use Rattle.derivation_branch.proofs.RisingLaws.{absent-above}
use Rattle.derivation_branch.proofs.number_set.is_above.Goals as goal

pub returns-in-Some-clause-absent : goal.returns-in-Some-clause-absent
returns-in-Some-clause-absent c = λ above rising. absent-above c.args.number c.args.items.now c.in-Some.last.now (search rules) above rising
