use Rattle.std.proofs.Common.{◌+◌, ◌*◌, sym, ◌∙◌, ap, arith, min, reverse}
use Rattle.std.proofs.Math.Nat.{zero-min}
use Rattle.calculus.specs.Lists.{terms_tree}
use Rattle.calculus.specs.Structures.{place_from, place_of, term_value, term_values}
use Rattle.formula_core.specs.TermView.{the_term}
use Rattle.finite_model.proofs.ArgLaws.{arg-on, arg-end}
use Rattle.finite_model.proofs.value.+element_at.Goals as goal

pub element_at-returns-in-Fun : goal.element_at-returns-in-Fun
element_at-returns-in-Fun t c =
    c.value_at.ensures (place_of c.args.structure.now (term_values c.args.structure.now (reverse c.args.env.now) (terms_tree c.in-Fun.args))) c.place_at.ensures
    ∙ sym (ap (λ x. term_value c.args.structure.now (reverse c.args.env.now) (the_term x)) c.in-Fun.is)

pub place_at-loop-arg-init : goal.place_at-loop-arg-init
place_at-loop-arg-init t c = (
  0,
  sym (zero-min 18446744073709551615),
  ap (λ ts. place_from c.args.structure.now.elements 0 (term_values c.args.structure.now (reverse c.args.env.now) (terms_tree ts))) c.items-arg-items.ensures,
)

pub place_at-loop-arg-preserved : goal.place_at-loop-arg-preserved
place_at-loop-arg-preserved t c = (
  c.loop-arg.invariant.0 * c.elements.result + c.element_at-element.result,
  c.place_with-place.ensures c.loop-arg.invariant.0 c.loop-arg.invariant.1,
  arg-on c.args.structure.now (reverse c.args.env.now) c.items-arg-items.result.now c.loop-arg.arg-index c.loop-arg.invariant.0 c.elements.result c.element_at-element.result _ c.arg-item.result c.arg-item.result (omega arith) c.arg-item.is c.elements.ensures c.element_at-element.ensures c.loop-arg.invariant.2,
)

pub place_at-returns : goal.place_at-returns
place_at-returns t c = c.loop-arg.invariant.1 ∙ ap (λ q. min q 18446744073709551615) (arg-end c.args.structure.now (reverse c.args.env.now) c.items-arg-items.result.now c.loop-arg.arg-index c.loop-arg.invariant.0 _ (omega arith) c.loop-arg.invariant.2)
