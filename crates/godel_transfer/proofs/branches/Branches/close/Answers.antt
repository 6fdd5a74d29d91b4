use Rattle.std.proofs.Common.{◌≡◌, ◌∷◌, [], ◌++◌, ◌∙◌, ap, refl}
use Rattle.godel_transfer.proofs.BranchUpdates.{closed-kept, closed-shown}
use Rattle.godel_transfer.proofs.branches.Branches.close.Goals as goal

pub returns-in_ok-cut-in-Some-2-clause-closed : goal.returns-in_ok-cut-in-Some-2-clause-closed
returns-in_ok-cut-in-Some-2-clause-closed c =
    closed-shown c.args.self.now (record { is_open = c.args.self.now.is_open; entries = c.push.new.self; count = c.in-Some.fork.second.place; characters = c.cut.new.self; eigens = c.cut-in-Some.new.self; forks = c.pop.new.self; labels = c.args.self.now.labels }) c.in-Some.fork c.requires.is_open refl c.in-Some.ensures.items
    (c.in_ok-push-in-Some.ensures.items ∙ ap (λ l. l ++ c.in-Some.fork.second ∷ []) c.truncate.ensures.items) refl c.in_ok-cut-in-Some.ensures.cut c.in_ok-cut-in-Some-2.ensures.cut refl c.requires.kept

pub returns-in_ok-cut-in-Some-2-clause-kept : goal.returns-in_ok-cut-in-Some-2-clause-kept
returns-in_ok-cut-in-Some-2-clause-kept c =
    closed-kept c.args.self.now (record { is_open = c.args.self.now.is_open; entries = c.push.new.self; count = c.in-Some.fork.second.place; characters = c.cut.new.self; eigens = c.cut-in-Some.new.self; forks = c.pop.new.self; labels = c.args.self.now.labels }) c.in-Some.fork c.in-Some.ensures.items
    (c.in_ok-push-in-Some.ensures.items ∙ ap (λ l. l ++ c.in-Some.fork.second ∷ []) c.truncate.ensures.items) c.in_ok-cut-in-Some.ensures.cut c.in_ok-cut-in-Some-2.ensures.cut refl c.in_ok-cut-in-Some.ensures.images c.in_ok-cut-in-Some-2.ensures.images c.requires.kept
