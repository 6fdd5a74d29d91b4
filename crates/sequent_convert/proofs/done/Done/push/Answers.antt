use Rattle.std.proofs.Common.{◌+◌, ℕ, List, Contains, sym, subst, arith}
use Rattle.sequent_convert.specs.Numbers.{KeepsNumbers}
use Rattle.sequent_convert.proofs.Numbers.{numbers-push, numbers-other}
use Rattle.sequent_convert.proofs.done.Done.push.Goals as goal

pub invariant_of-self-in_err-push : goal.invariant_of-self-in_err-push
invariant_of-self-in_err-push c = subst (KeepsNumbers c.put_number.new.numbers.items) (sym c.in_err-push.ensures.items) (numbers-other c.self.inside.numbers.items c.put_number.new.numbers.items c.self.inside.turns.items c.args.turn c.self.invariant (subst (λ (l : List ℕ). Contains l c.args.turn → ⊥) (sym c.self.view_is) c.requires) c.put_number.ensures.others)

pub invariant_of-self-2 : goal.invariant_of-self-2
invariant_of-self-2 c = subst (KeepsNumbers c.put_number.new.numbers.items) (sym c.in_ok-push.ensures.items) (numbers-push c.self.inside.numbers.items c.put_number.new.numbers.items c.self.inside.turns.items c.args.turn (c.len-number.result + 1) c.self.invariant (subst (λ (l : List ℕ). Contains l c.args.turn → ⊥) (sym c.self.view_is) c.requires) (omega arith) c.in_ok-put_number.ensures.here c.put_number.ensures.others)
