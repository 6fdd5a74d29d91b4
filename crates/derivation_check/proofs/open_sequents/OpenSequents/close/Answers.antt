use Rattle.std.proofs.Common.{◌∙◌, ◌∷◌, [], ◌++◌, ap}
use Rattle.derivation_check.proofs.Forks.{close_shown, close_nest, close_last}
use Rattle.derivation_check.proofs.open_sequents.OpenSequents.close.Goals as goal

pub returns-in_ok-push-in-Some-clause-closed : goal.returns-in_ok-push-in-Some-clause-closed
returns-in_ok-push-in-Some-clause-closed c =
    let b = c.args.self.now in
    close_shown b.is_open b.branch.items c.push.new.self.items c.pop.new.self.items b.forks.items c.in-Some.length c.in-Some.second c.requires.is_open c.in-Some.ensures.items
    (c.in_ok-push-in-Some.ensures.items ∙ ap (λ l. l ++ c.in-Some.second ∷ []) c.truncate.ensures.items) c.requires.nested

pub returns-in_ok-push-in-Some-clause-last : goal.returns-in_ok-push-in-Some-clause-last
returns-in_ok-push-in-Some-clause-last c =
    let b = c.args.self.now in
    close_last b.branch.items c.pop.new.self.items b.forks.items c.in-Some.length c.in-Some.second c.in-Some.ensures.items

pub returns-in_ok-push-in-Some-clause-nested : goal.returns-in_ok-push-in-Some-clause-nested
returns-in_ok-push-in-Some-clause-nested c =
    let b = c.args.self.now in
    close_nest b.branch.items c.push.new.self.items c.pop.new.self.items b.forks.items c.in-Some.length c.in-Some.second c.in-Some.ensures.items
    (c.in_ok-push-in-Some.ensures.items ∙ ap (λ l. l ++ c.in-Some.second ∷ []) c.truncate.ensures.items) c.requires.nested
