use Rattle.std.proofs.Common.{◌++◌, [], ◌∷◌, sym, ◌∙◌, ap, arith}
use Rattle.finite_model.proofs.TupleLaws.{places-done, places-next, places-same}
use Rattle.finite_model.proofs.tuples.places_of.Goals as goal

pub loop-argument-init : goal.loop-argument-init
loop-argument-init c = c.in_ok-push.ensures.items ∙ ap (λ l. l ++ 0 ∷ []) c.new-places.ensures.items

pub loop-argument-preserved : goal.loop-argument-preserved
loop-argument-preserved c = places-next c.args.elements c.args.domain.now c.loop-argument.places.items c.as_slice.result.now _ c.loop-argument._argument c.in_ok-more.ensures c.as_slice.ensures.value c.loop-argument.invariant

pub returns-then-eq : goal.returns-then-eq
returns-then-eq c = places-same c.args.elements c.args.domain.now c.loop-argument.places.items c.as_slice.result.now c.in_ok-more.more.items _ _ c.loop-argument._argument c.args.arity c.in_ok-more.ensures c.as_slice.ensures.value c.loop-argument.invariant (omega arith) c.as_slice-in-loop-argument.ensures.value c.as_slice-in-loop-argument-2.ensures.value (sym c.eq.ensures ∙ c.if-eq.true)

pub returns : goal.returns
returns c = places-done c.args.elements c.args.domain.now c.loop-argument.places.items c.loop-argument._argument c.args.arity (omega arith) c.loop-argument.invariant
