use Rattle.std.proofs.Common.{rules}
use Rattle.derivation_branch.proofs.RisingLaws.{longer-behind}
use Rattle.derivation_branch.proofs.number_set.NumberSet.add.Goals as goal

pub returns-clause-kept : goal.returns-clause-kept
returns-clause-kept c = longer-behind c.self.inside.rising.items c.self.inside.others.keys c.insert.new.self.keys c.args.self.now c.args.number c.self.view_is (search rules)
