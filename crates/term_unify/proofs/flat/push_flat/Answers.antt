use Rattle.std.proofs.Common.{◌∷◌, [], ◌∙◌, ap, inl, inr, map, refl}
use Rattle.plain_laws.proofs.Lists.{map-last}
use Rattle.store_theory.proofs.BindingLaws.{ends-there}
use Rattle.term_store.specs.RefView.{the_place}
use Rattle.term_unify.proofs.FlatLaws.{ends-free, ends-label}
use Rattle.term_unify.proofs.flat.push_flat.Goals as goal

pub is_string-requires-clause-end : goal.is_string-requires-clause-end
is_string-requires-clause-end c = ends-there c.args.store.now.store c.args.item.0 c.walk-end.result.0 c.walk-end.ensures.ends

pub is_string-requires-clause-sort : goal.is_string-requires-clause-sort
is_string-requires-clause-sort c = ends-label c.args.store.now.store c.args.item.0 c.walk-end.result.0 c.walk-end.ensures.well.fits c.walk-end.ensures.ends c.requires.sort

pub is_string-requires-clause-free : goal.is_string-requires-clause-free
is_string-requires-clause-free c = ends-free c.args.store.now.store c.args.item.0 c.walk-end.result.0 c.walk-end.ensures.ends c.requires.free

pub push_parts-requires : goal.push_parts-requires
push_parts-requires c = ends-there c.args.store.now.store c.args.item.0 c.walk-end.result.0 c.walk-end.ensures.ends

pub returns-then-is_string : goal.returns-then-is_string
returns-then-is_string c =
    let (ks, e) = c.is_string.ensures.string c.if-is_string.true in
    (ks, c.in_ok-push_parts.ensures ks e, (c.walk-end.result.0, c.walk-end.ensures.ends, inr e))

pub returns : goal.returns
returns c = (
  c.walk-end.result.0 ∷ [],
  ap (map the_place) c.in_ok-push.ensures.items ∙ map-last the_place c.args.marks.now.items c.walk-end.result,
  (c.walk-end.result.0, c.walk-end.ensures.ends, inl (refl, c.is_string.ensures.mark c.if-is_string.false)),
)
