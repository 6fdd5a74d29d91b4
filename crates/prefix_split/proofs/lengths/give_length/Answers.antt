use Rattle.calculus.specs.declared.sort.Sort.TheVariants.{StringSort}
use Rattle.store_theory.proofs.BindingLaws.{ends-there, within-sort}
use Rattle.prefix_split.proofs.LaterLaws.{later-same}
use Rattle.prefix_split.proofs.LengthLaws.{ends-sorted, given-there, never-given}
use Rattle.prefix_split.proofs.lengths.give_length.Goals as goal

pub is_unbound-requires-clause-end : goal.is_unbound-requires-clause-end
is_unbound-requires-clause-end c = ends-there c.args.store.now.store c.args.string.0 c.walk-end.result.0 c.walk-end.ensures.ends

pub is_unbound-requires-clause-sort : goal.is_unbound-requires-clause-sort
is_unbound-requires-clause-sort c = ends-sorted c.args.store.now.store StringSort c.args.string.0 c.walk-end.result.0 c.walk-end.ensures.well.fits c.walk-end.ensures.ends c.requires

pub bind_length-requires-clause-within : goal.bind_length-requires-clause-within
bind_length-requires-clause-within c = within-sort c.args.store.now.store StringSort c.args.string.0 c.requires

pub returns-clause-given : goal.returns-clause-given
returns-clause-given c = given-there c.args.store.now.store c.args.string.0 c.walk-end.result.0 c.args.n c.parts.result c.walk-end.ensures.ends (c.is_unbound.ensures.built c.if-is_unbound.false) c.parts.ensures.count

pub returns-clause-cannot : goal.returns-clause-cannot
returns-clause-cannot c = never-given c.args.store.now.store c.args.string.0 c.walk-end.result.0 c.args.n c.parts.result c.walk-end.ensures.ends (c.is_unbound.ensures.built c.if-is_unbound.false) c.parts.ensures.count

pub returns-then-is_unbound-clause-right : goal.returns-then-is_unbound-clause-right
returns-then-is_unbound-clause-right c = λ e P step. c.in_ok-bind_length.ensures.right P step

pub returns-clause-right : goal.returns-clause-right
returns-clause-right c = λ e P step base l from a. a
