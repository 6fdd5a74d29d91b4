use Rattle.std.proofs.Common.{◌∙◌}
use Rattle.derivation_check.proofs.Forks.{fork_shown, fork_nest}
use Rattle.derivation_check.proofs.open_sequents.OpenSequents.fork.Goals as goal

pub returns-clause-forked : goal.returns-clause-forked
returns-clause-forked c = let b = c.args.self.now in fork_shown b.is_open b.branch.items c.push-2.new.self.items b.forks.items c.push.new.self.items c.len.result c.args.first c.args.second c.requires.is_open (c.len.ensures ∙ b.branch.ok.0) c.in_ok-push.ensures.items c.in_ok-push-2.ensures.items c.requires.nested

pub returns-clause-nested : goal.returns-clause-nested
returns-clause-nested c = let b = c.args.self.now in fork_nest b.branch.items c.push-2.new.self.items b.forks.items c.push.new.self.items c.len.result c.args.first c.args.second (c.len.ensures ∙ b.branch.ok.0) c.in_ok-push.ensures.items c.in_ok-push-2.ensures.items c.requires.nested
