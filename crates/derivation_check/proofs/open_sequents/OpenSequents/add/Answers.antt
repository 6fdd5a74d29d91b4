use Rattle.std.proofs.Common.{◌∷◌, []}
use Rattle.derivation_check.proofs.Forks.{add_shown, add_nest}
use Rattle.derivation_check.proofs.open_sequents.OpenSequents.add.Goals as goal

pub returns-clause-added : goal.returns-clause-added
returns-clause-added c = let b = c.args.self.now in add_shown b.is_open b.branch.items c.push.new.self.items (c.args.item ∷ []) b.forks.items c.requires.is_open c.in_ok-push.ensures.items c.requires.nested

pub returns-clause-nested : goal.returns-clause-nested
returns-clause-nested c = let b = c.args.self.now in add_nest b.branch.items c.push.new.self.items (c.args.item ∷ []) b.forks.items c.in_ok-push.ensures.items c.requires.nested
