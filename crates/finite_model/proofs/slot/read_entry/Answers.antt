use Rattle.std.proofs.Common.{IfOk, sym, subst}
use Rattle.finite_model.specs.Slots.{IsEntryText}
use Rattle.finite_model.proofs.slot.read_entry.Goals as goal

pub returns-in-Rising-clause-ok : goal.returns-in-Rising-clause-ok
returns-in-Rising-clause-ok c = subst (λ f. IfOk c.read_rising.result (λ v. IsEntryText f c.args.text.now v.items)) (sym c.in-Rising.is) c.read_rising.ensures.ok

pub returns-in-Rising-clause-none : goal.returns-in-Rising-clause-none
returns-in-Rising-clause-none c = λ e xs h. c.read_rising.ensures.none e xs (subst (λ f. IsEntryText f c.args.text.now xs) c.in-Rising.is h)

pub returns-in-Values-clause-ok : goal.returns-in-Values-clause-ok
returns-in-Values-clause-ok c = subst (λ f. IfOk c.read_values.result (λ v. IsEntryText f c.args.text.now v.items)) (sym c.in-Values.is) c.read_values.ensures.ok

pub returns-in-Values-clause-none : goal.returns-in-Values-clause-none
returns-in-Values-clause-none c = λ e xs h. c.read_values.ensures.none e xs (subst (λ f. IsEntryText f c.args.text.now xs) c.in-Values.is h)

pub returns-in-Digits-clause-ok : goal.returns-in-Digits-clause-ok
returns-in-Digits-clause-ok c = subst (λ f. IfOk c.read_digits.result (λ v. IsEntryText f c.args.text.now v.items)) (sym c.in-Digits.is) c.read_digits.ensures.ok

pub returns-in-Digits-clause-none : goal.returns-in-Digits-clause-none
returns-in-Digits-clause-none c = λ e xs h. c.read_digits.ensures.none e xs (subst (λ f. IsEntryText f c.args.text.now xs) c.in-Digits.is h)
