use Rattle.std.proofs.Common.{◌≡◌, ◌++◌, ◌∷◌, [], arith, length, map, reverse, ap, sym, ◌∙◌, subst}
use Rattle.tableau_cert.specs.Judging.{IsNormalClosed, closed_by, goal_at, goal_of, the_closed}
use Rattle.tableau_cert.specs.Resolving.{the_closer}
use Rattle.tableau_cert.specs.declared.judging.Closed.TheVariants.{Goals}
use Rattle.tableau_cert.proofs.JudgingLaws.{next}
use Rattle.tableau_cert.proofs.judging.close_next.Goals as goal

pub returns-in_ok-put_goals-in-Goals : goal.returns-in_ok-put_goals-in-Goals
returns-in_ok-put_goals-in-Goals c = let ls = c.args.table.now in let x = c.args.goal.literal in let closer = the_closer ls c.args.closer.now in
    let back = c.deref.ensures.value ∙ c.truncate.ensures.items in
    let ok = c.push.new.self.ok.0 in let l = c.len.ensures in let deep : c.len.result ≡ length c.push.new.self.items = omega (arith, ok, l) in
    next ls c.args.path.now.items c.args.open_goals.now.items c.args.goal c.in-Goals.goals.items c.push.new.self.items c.put_goals.new.open_goals.items _ c.requires.nested
    (c.in_ok-push-in-Goals.ensures.items ∙ ap (λ xs. xs ++ x ∷ []) c.truncate.ensures.items)
    (c.in_ok-put_goals-in-Goals.ensures ∙ (λ i. c.args.open_goals.now.items ++ reverse (map (goal_of (deep i)) (c.deref-in-Goals.ensures.value i))))
    (ap (λ p. the_closed ls p x (Goals c.in-Goals.goals)) (sym back) ∙ sym (ap (the_closed ls c.deref.result.now x) c.in-Goals.is) ∙ c.in_ok-fault.ensures.closed ∙ ap (λ p. closed_by c.args.limit (goal_at ls p x) closer) back)
    c.requires.normal (subst (IsNormalClosed ls) c.in-Goals.is c.in_ok-fault.ensures.normal)
