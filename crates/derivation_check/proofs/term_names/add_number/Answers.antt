use Rattle.derivation_check.proofs.NamesLaws.{any-inserted}
use Rattle.derivation_check.proofs.term_names.add_number.Goals as goal

pub returns : goal.returns
returns c = any-inserted c.args.set.now.keys c.insert.new.self.keys c.args.number c.in_ok-insert.ensures.keys
