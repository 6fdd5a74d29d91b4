use Rattle.std.proofs.Common.{rules, ◌≡◌, ◌==◌, ◌∙◌, ◌++◌, ◌∷◌, [], ap, map, sym, true}
use Rattle.plain_laws.proofs.Lists.{map-last}
use Rattle.term_unify.proofs.VisitLaws.{looks-rest}
use Rattle.store_theory.proofs.BindingLaws.{ends-there}
use Rattle.term_store.specs.RefView.{the_place}
use Rattle.term_unify.proofs.PairLaws.{looks-less}
use Rattle.domain_cond.specs.Leaves.{is_among}
use Rattle.domain_cond.proofs.LeafLaws.{leaf-of, looking-again, looking-end, looking-leaf, looking-parts, looking-start, looking-top, or-cond}
use Rattle.domain_cond.proofs.leaf.leaves.Goals as goal

pub loop-r-init : goal.loop-r-init
loop-r-init c = looking-start c.args.store.now.store c.args.term.0 (map the_place c.push.new.self.items) (map the_place c.new-leaves.result.items) c.new-seen.result.keys (ap (map the_place) (c.in_ok-push.ensures.items ∙ ap (λ xs. xs ++ c.args.term ∷ []) c.new-pending.ensures.items)) (ap (map the_place) c.new-leaves.ensures.items) c.new-seen.ensures.empty c.requires

pub walk-end-requires : goal.walk-end-requires
walk-end-requires c = looking-top c.args.store.now.store c.args.term.0 c.in-Some.r.0 (map the_place c.loop-r.pending.items) (map the_place c.pop.new.self.items) c.loop-r.seen.keys (map the_place c.loop-r.leaves.items) c.loop-r.invariant (ap (map the_place) c.in-Some.ensures.items ∙ map-last the_place c.pop.new.self.items c.in-Some.r)

pub has_arguments-requires : goal.has_arguments-requires
has_arguments-requires c = ends-there c.args.store.now.store c.in-Some.r.0 c.walk-end.result.0 c.walk-end.ensures.ends

pub push_parts-requires : goal.push_parts-requires
push_parts-requires c = ends-there c.args.store.now.store c.in-Some.r.0 c.walk-end.result.0 c.walk-end.ensures.ends

pub loop-r-smaller-in-Continue-branch-2 : goal.loop-r-smaller-in-Continue-branch-2
loop-r-smaller-in-Continue-branch-2 c = looks-rest c.args.store.now.store c.in-Some.r.0 (map the_place c.pop.new.self.items) (map the_place c.loop-r.pending.items) (ap (map the_place) c.in-Some.ensures.items ∙ map-last the_place c.pop.new.self.items c.in-Some.r)

pub loop-r-smaller : goal.loop-r-smaller
loop-r-smaller c = looks-rest c.args.store.now.store c.in-Some.r.0 (map the_place c.pop.new.self.items) (map the_place c.loop-r.pending.items) (ap (map the_place) c.in-Some.ensures.items ∙ map-last the_place c.pop.new.self.items c.in-Some.r)

pub loop-r-preserved-in-Continue-branch-2 : goal.loop-r-preserved-in-Continue-branch-2
loop-r-preserved-in-Continue-branch-2 c =
    let end = ends-there c.args.store.now.store c.in-Some.r.0 c.walk-end.result.0 c.walk-end.ensures.ends in
    looking-leaf c.args.store.now.store c.args.term.0 c.in-Some.r.0 c.walk-end.result.0 (map the_place c.loop-r.pending.items) (map the_place c.pop.new.self.items) c.loop-r.seen.keys (map the_place c.loop-r.leaves.items) (map the_place c.push-then-not-has_arguments.new.self.items) c.loop-r.invariant (ap (map the_place) c.in-Some.ensures.items ∙ map-last the_place c.pop.new.self.items c.in-Some.r) c.walk-end.ensures.ends (leaf-of c.args.store.now.store c.walk-end.result.0 end (λ d at. sym c.if-not-has_arguments.true ∙ c.has_arguments.ensures d at)) (ap (map the_place) c.in_ok-push-2.ensures.items ∙ map-last the_place c.loop-r.leaves.items c.walk-end.result)

pub loop-r-preserved : goal.loop-r-preserved
loop-r-preserved c =
    let again : is_among c.loop-r.seen.keys c.walk-end.result.0 ≡ true = search rules in
    looking-again c.args.store.now.store c.args.term.0 c.in-Some.r.0 c.walk-end.result.0 (map the_place c.loop-r.pending.items) (map the_place c.pop.new.self.items) c.loop-r.seen.keys c.insert.new.self.keys (map the_place c.loop-r.leaves.items) c.loop-r.invariant (ap (map the_place) c.in-Some.ensures.items ∙ map-last the_place c.pop.new.self.items c.in-Some.r) c.walk-end.ensures.ends again (λ x. or-cond (c.walk-end.result.0 == x) (is_among c.insert.new.self.keys x) (is_among c.loop-r.seen.keys x) (c.in_ok-insert.ensures.updates.0 x))

pub loop-r-smaller-in-Continue-branch-4 : goal.loop-r-smaller-in-Continue-branch-4
loop-r-smaller-in-Continue-branch-4 c =
    let end = ends-there c.args.store.now.store c.in-Some.r.0 c.walk-end.result.0 c.walk-end.ensures.ends in
    looks-less c.args.store.now.store c.in-Some.r.0 c.walk-end.result.0 end.0 (map the_place c.pop.new.self.items) (map the_place c.loop-r.pending.items) (map the_place c.push_parts.new.items.items) c.walk-end.ensures.well (ap (map the_place) c.in-Some.ensures.items ∙ map-last the_place c.pop.new.self.items c.in-Some.r) c.walk-end.ensures.ends end.1 (c.in_ok-push_parts.ensures end.0 end.1)

pub loop-r-preserved-in-Continue-branch-4 : goal.loop-r-preserved-in-Continue-branch-4
loop-r-preserved-in-Continue-branch-4 c =
    let end = ends-there c.args.store.now.store c.in-Some.r.0 c.walk-end.result.0 c.walk-end.ensures.ends in
    looking-parts c.args.store.now.store c.args.term.0 c.in-Some.r.0 c.walk-end.result.0 (map the_place c.loop-r.pending.items) (map the_place c.pop.new.self.items) (map the_place c.push_parts.new.items.items) c.loop-r.seen.keys c.insert.new.self.keys (map the_place c.loop-r.leaves.items) end.0 c.walk-end.ensures.well.fits c.loop-r.invariant (ap (map the_place) c.in-Some.ensures.items ∙ map-last the_place c.pop.new.self.items c.in-Some.r) c.walk-end.ensures.ends end.1 (sym (c.has_arguments.ensures end.0 end.1) ∙ c.if-not-has_arguments.false) (λ x. or-cond (c.walk-end.result.0 == x) (is_among c.insert.new.self.keys x) (is_among c.loop-r.seen.keys x) (c.in_ok-insert.ensures.updates.0 x)) (c.in_ok-push_parts.ensures end.0 end.1)

pub returns : goal.returns
returns c =
    let nothing : c.loop-r.pending.items ≡ [] = search rules in
    looking-end c.args.store.now.store c.args.term.0 (map the_place c.loop-r.pending.items) c.loop-r.seen.keys (map the_place c.loop-r.leaves.items) c.loop-r.invariant (ap (map the_place) nothing)
