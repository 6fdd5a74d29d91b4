use Rattle.std.proofs.Common.{arith, map, subst}
use Rattle.search_theory.specs.Exploring.{IsIn}
use Rattle.term_store.specs.RefView.{the_place}
use Rattle.search_tree.proofs.KeyLaws.{numbered-next}
use Rattle.search_tree.proofs.goal_key.GoalKey.number.Goals as goal

pub returns-in_ok-push-in-None-clause-number : goal.returns-in_ok-push-in-None-clause-number
returns-in_ok-push-in-None-clause-number c = numbered-next c.args.self.now.variables.items c.push.new.self.items c.args.place c.len-number.result (let n = c.len-number.ensures in let k = c.args.self.now.variables.ok.0 in omega (arith, n, k)) c.in_ok-push-in-None.ensures.items (subst (λ xs. ¬ IsIn c.args.place.0 (map the_place xs)) c.deref.ensures.value c.in-None.ensures)
