use Rattle.std.proofs.Common.{◌∷◌, []}
use Rattle.derivation_check.proofs.Forks.{add_shown, add_nest, two_more}
use Rattle.derivation_check.proofs.open_sequents.OpenSequents.add_both.Goals as goal

pub returns-clause-added : goal.returns-clause-added
returns-clause-added c =
    let b = c.args.self.now in
    let grown = two_more b.branch.items c.push.new.self.items c.push-2.new.self.items c.args.a c.args.b c.in_ok-push.ensures.items c.in_ok-push-2.ensures.items in
    add_shown b.is_open b.branch.items c.push-2.new.self.items (c.args.a ∷ c.args.b ∷ []) b.forks.items c.requires.is_open grown c.requires.nested

pub returns-clause-nested : goal.returns-clause-nested
returns-clause-nested c =
    let b = c.args.self.now in
    let grown = two_more b.branch.items c.push.new.self.items c.push-2.new.self.items c.args.a c.args.b c.in_ok-push.ensures.items c.in_ok-push-2.ensures.items in
    add_nest b.branch.items c.push-2.new.self.items (c.args.a ∷ c.args.b ∷ []) b.forks.items grown c.requires.nested
