use Rattle.std.proofs.Common.{refl, sym, subst, arith}
use Rattle.finite_model.proofs.NumberLaws.{AreNumbers, numbers-begun, numbers-broken, numbers-on, numbers-only, numbers-text}
use Rattle.finite_model.proofs.slot.read_numbers.Goals as goal

pub loop-place-init : goal.loop-place-init
loop-place-init c = subst (λ l. AreNumbers c.args.text.now c.args.most l 0) (sym c.new-numbers.ensures.items) (numbers-begun c.args.text.now c.args.most)

pub loop-place-preserved : goal.loop-place-preserved
loop-place-preserved c = subst (λ l. AreNumbers c.args.text.now c.args.most l c.in-Some.end) (sym c.in_ok-push.ensures.items) (numbers-on c.args.text.now c.args.most c.loop-place.numbers.items c.loop-place.place c.in-Some.end c.in-Some.item c.loop-place.invariant (omega arith) c.in-Some.ensures.item c.in-Some.ensures.below)

pub loop-place-smaller : goal.loop-place-smaller
loop-place-smaller c = omega (arith, c.in-Some.ensures.item.onward, c.in-Some.ensures.item.within)

pub returns-in_default-clause-none : goal.returns-in_default-clause-none
returns-in_default-clause-none c = λ _. numbers-broken c.args.text.now c.args.most c.loop-place.numbers.items c.loop-place.place c.loop-place.invariant (omega arith) (c.in_default.ensures.none refl)

pub returns-clause-text : goal.returns-clause-text
returns-clause-text c = numbers-text c.args.text.now c.args.most c.loop-place.numbers.items c.loop-place.place c.loop-place.invariant (omega arith)

pub returns-clause-one : goal.returns-clause-one
returns-clause-one c = numbers-only c.args.text.now c.args.most c.loop-place.numbers.items c.loop-place.place c.loop-place.invariant (omega arith)
