use Rattle.std.proofs.Common.{◌∙◌, ◌++◌, ◌∷◌, [], ap}
use Rattle.term_store.specs.SystemView.{the_equation}
use Rattle.domain_cond.proofs.OwnLaws.{never-equal, never-solved}
use Rattle.domain_cond.proofs.own.equation_with_mark.Goals as goal

pub returns-clause-never : goal.returns-clause-never
returns-clause-never c = never-equal c.args.store.now.store c.new_mark.new.self.store c.in_ok-mark.mark.0 (the_equation (record { left = c.new-left.result; right = c.push.new.self })) c.in_ok-mark.ensures.ok c.mark-now.ensures.well c.in_ok-mark.ensures.place c.new-left.ensures (c.in_ok-push.ensures.ok ∙ ap (λ xs. xs ++ c.in_ok-mark.mark.0 ∷ []) c.new-right.ensures)

pub returns-clause-apart : goal.returns-clause-apart
returns-clause-apart c = never-solved c.args.store.now.store c.new_mark.new.self.store c.in_ok-mark.mark.0 (the_equation (record { left = c.new-left.result; right = c.push.new.self })) c.in_ok-mark.ensures.ok c.in_ok-mark.ensures.place c.new-left.ensures (c.in_ok-push.ensures.ok ∙ ap (λ xs. xs ++ c.in_ok-mark.mark.0 ∷ []) c.new-right.ensures)
