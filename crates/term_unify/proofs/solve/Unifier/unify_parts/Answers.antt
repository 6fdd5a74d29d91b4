use Rattle.std.proofs.Common.{ap, map}
use Rattle.term_unify.specs.PairView.{the_pair}
use Rattle.term_unify.proofs.OnePairLaws.{apart-parts, parts-come, unifies-parts, within-parts}
use Rattle.term_unify.proofs.solve.Unifier.unify_parts.Goals as goal

pub unify_pairs-requires-clause-cells : goal.unify_pairs-requires-clause-cells
unify_pairs-requires-clause-cells c = (parts-come c.args.store.now.store c.args.a.0 c.args.b.0 _ (map the_pair c.push_parts.new.pairs.items) c.in_ok-push_parts.ensures.well c.requires.built (ap (map the_pair) c.clear.ensures.items) c.in_ok-push_parts.ensures.added).cells

pub returns-clause-unifies : goal.returns-clause-unifies
returns-clause-unifies c = λ t.
    let come = parts-come c.args.store.now.store c.args.a.0 c.args.b.0 _ (map the_pair c.push_parts.new.pairs.items) c.in_ok-push_parts.ensures.well c.requires.built (ap (map the_pair) c.clear.ensures.items) c.in_ok-push_parts.ensures.added in
    unifies-parts c.args.store.now.store c.unify_pairs.new.store.store c.args.a.0 c.args.b.0 (map the_pair c.push_parts.new.pairs.items) come (c.in_ok-equal.ensures.solved t) c.unify_pairs.ensures.well

pub returns-clause-apart : goal.returns-clause-apart
returns-clause-apart c = λ t.
    let come = parts-come c.args.store.now.store c.args.a.0 c.args.b.0 _ (map the_pair c.push_parts.new.pairs.items) c.in_ok-push_parts.ensures.well c.requires.built (ap (map the_pair) c.clear.ensures.items) c.in_ok-push_parts.ensures.added in
    apart-parts c.args.store.now.store c.args.a.0 c.args.b.0 (map the_pair c.push_parts.new.pairs.items) come (c.in_ok-equal.ensures.apart t)

pub returns-clause-within : goal.returns-clause-within
returns-clause-within c =
    let come = parts-come c.args.store.now.store c.args.a.0 c.args.b.0 _ (map the_pair c.push_parts.new.pairs.items) c.in_ok-push_parts.ensures.well c.requires.built (ap (map the_pair) c.clear.ensures.items) c.in_ok-push_parts.ensures.added in
    within-parts c.args.store.now.store c.unify_pairs.new.store.store c.args.a.0 c.args.b.0 (map the_pair c.push_parts.new.pairs.items) come c.unify_pairs.ensures.within
