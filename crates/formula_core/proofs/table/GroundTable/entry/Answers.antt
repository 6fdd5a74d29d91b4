use Rattle.formula_core.proofs.EntryLaws.{entry-found, entry-none}
use Rattle.formula_core.proofs.table.GroundTable.entry.Goals as goal

pub returns-clause-found : goal.returns-clause-found
returns-clause-found c = entry-found c.self.inside.entries.keys c.args.self.now c.args.number c.get_index.result c.self.view_is c.self.invariant c.get_index.ensures.key c.get_index.ensures.found.0

pub returns-clause-none : goal.returns-clause-none
returns-clause-none c = entry-none c.self.inside.entries.keys c.args.self.now c.args.number c.get_index.result c.self.view_is c.get_index.ensures.found.1
