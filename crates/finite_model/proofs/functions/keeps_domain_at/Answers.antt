use Rattle.std.proofs.Common.{sym, ◌∙◌, refl, arith}
use Rattle.finite_model.proofs.FunctionLaws.{ArePlaces, flag-told, kept-end, kept-false, kept-on}
use Rattle.finite_model.proofs.functions.keeps_domain_at.Goals as goal

pub loop-place-preserved : goal.loop-place-preserved
loop-place-preserved c =
    let here : ArePlaces c.args.s.now c.args.world c.args.arity c.elements.result c.domain_of-domain.result.now c.as_slice-place-items.result.now = record { domain_is = c.domain_of-domain.ensures; elements = c.elements.ensures; places_are = c.as_slice-place-items.ensures.value ∙ c.in_ok-places.ensures } in
    let told = flag-told c.in_ok-exists.exists.items c.domain_of-domain.result.now c.value_at-value.result c.index.result.now (omega (arith, c.in_ok-exists.ensures.count, c.value_at-value.type_inv)) c.index.ensures (c.in_ok-exists.ensures.flags c.value_at-value.result c.value_at-value.type_inv) in
    sym (kept-on c.args.s.now c.args.function.0 c.args.world c.args.arity c.elements.result c.value_at-value.result c.loop-place.place-index _ c.domain_of-domain.result.now c.as_slice-place-items.result.now c.index.result.now here c.loop-place-test.true refl c.value_at-value.ensures told c.if-not-index.false) ∙ c.loop-place.invariant

pub returns-then-not-index : goal.returns-then-not-index
returns-then-not-index c =
    let here : ArePlaces c.args.s.now c.args.world c.args.arity c.elements.result c.domain_of-domain.result.now c.as_slice-place-items.result.now = record { domain_is = c.domain_of-domain.ensures; elements = c.elements.ensures; places_are = c.as_slice-place-items.ensures.value ∙ c.in_ok-places.ensures } in
    let told = flag-told c.in_ok-exists.exists.items c.domain_of-domain.result.now c.value_at-value.result c.index.result.now (omega (arith, c.in_ok-exists.ensures.count, c.value_at-value.type_inv)) c.index.ensures (c.in_ok-exists.ensures.flags c.value_at-value.result c.value_at-value.type_inv) in
    sym (kept-false c.args.s.now c.args.function.0 c.args.world c.args.arity c.elements.result c.value_at-value.result c.loop-place.place-index _ c.domain_of-domain.result.now c.as_slice-place-items.result.now c.index.result.now here c.loop-place-test.true refl c.value_at-value.ensures told c.if-not-index.true) ∙ c.loop-place.invariant

pub returns : goal.returns
returns c =
    let here : ArePlaces c.args.s.now c.args.world c.args.arity c.elements.result c.domain_of-domain.result.now c.as_slice-place-items.result.now = record { domain_is = c.domain_of-domain.ensures; elements = c.elements.ensures; places_are = c.as_slice-place-items.ensures.value ∙ c.in_ok-places.ensures } in
    sym (kept-end c.args.s.now c.args.function.0 c.args.world c.args.arity c.elements.result c.loop-place.place-index c.domain_of-domain.result.now c.as_slice-place-items.result.now here (omega arith)) ∙ c.loop-place.invariant
