use Rattle.std.proofs.Common.{ap, inl, inr, map}
use Rattle.term_unify.specs.PairView.{the_pair}
use Rattle.term_unify.proofs.OnePairLaws.{apart-parts, differs-parts, parts-come, same-parts}
use Rattle.term_unify.proofs.solve.Unifier.have_same_parts.Goals as goal

pub next_binding-requires : goal.next_binding-requires
next_binding-requires c = (parts-come c.args.store.now.store c.args.a.0 c.args.b.0 _ (map the_pair c.push_parts.new.pairs.items) c.in_ok-push_parts.ensures.well c.requires (ap (map the_pair) c.clear.ensures.items) c.in_ok-push_parts.ensures.added).cells

pub returns-in-Done-clause-same : goal.returns-in-Done-clause-same
returns-in-Done-clause-same c = λ t. same-parts c.args.store.now.store c.args.a.0 c.args.b.0 (map the_pair c.push_parts.new.pairs.items) (parts-come c.args.store.now.store c.args.a.0 c.args.b.0 _ (map the_pair c.push_parts.new.pairs.items) c.in_ok-push_parts.ensures.well c.requires (ap (map the_pair) c.clear.ensures.items) c.in_ok-push_parts.ensures.added) (rw c.in-Done.is at c.in_ok-next_binding.ensures.next)

pub returns-in-Apart-clause-different : goal.returns-in-Apart-clause-different
returns-in-Apart-clause-different c = λ t. inl (apart-parts c.args.store.now.store c.args.a.0 c.args.b.0 (map the_pair c.push_parts.new.pairs.items) (parts-come c.args.store.now.store c.args.a.0 c.args.b.0 _ (map the_pair c.push_parts.new.pairs.items) c.in_ok-push_parts.ensures.well c.requires (ap (map the_pair) c.clear.ensures.items) c.in_ok-push_parts.ensures.added) (rw c.in-Apart.is at c.in_ok-next_binding.ensures.next))

pub returns-in-Bind-clause-different : goal.returns-in-Bind-clause-different
returns-in-Bind-clause-different c = λ t.
    let b = rw c.in-Bind.is at c.in_ok-next_binding.ensures.next in
    inr (_, _, differs-parts c.args.store.now.store c.args.a.0 c.args.b.0 _ _ (map the_pair c.push_parts.new.pairs.items) (map the_pair c.next_binding.new.pairs.items) (parts-come c.args.store.now.store c.args.a.0 c.args.b.0 _ (map the_pair c.push_parts.new.pairs.items) c.in_ok-push_parts.ensures.well c.requires (ap (map the_pair) c.clear.ensures.items) c.in_ok-push_parts.ensures.added) b.0 b.1 b.2)
