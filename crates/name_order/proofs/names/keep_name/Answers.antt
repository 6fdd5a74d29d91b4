use Rattle.name_order.proofs.ByNumber.NameSets.{name-kept, name-good}
use Rattle.name_order.proofs.names.keep_name.Goals as goal

pub returns-clause-normal : goal.returns-clause-normal
returns-clause-normal c = name-good c.args.table.now c.normal_name-name.ensures.apart c.args.names.now.keys c.insert.new.self.keys c.normal_name-name.result c.requires.normal c.normal_name-name.ensures.normal c.in_ok-insert.ensures.keys

pub returns-clause-kept : goal.returns-clause-kept
returns-clause-kept c = name-kept c.args.table.now c.normal_name-name.ensures.apart c.args.names.now.keys c.insert.new.self.keys c.normal_name-name.result _ c.requires.normal c.normal_name-name.ensures.normal c.normal_name-name.ensures.same c.in_ok-insert.ensures.keys
