use Rattle.std.proofs.Common.{◌≡◌, ◌++◌, ◌∙◌, ap, arith, length, map, take}
use Rattle.store_theory.specs.Bindings.{part_pairs}
use Rattle.store_theory.specs.Stores.{parts_of}
use Rattle.term_unify.specs.PairView.{the_pair}
use Rattle.term_unify.proofs.PairLaws.{as-many, built-left, built-right, pairs-added, pairs-done, part-among, parts-count}
use Rattle.term_unify.proofs.compare.push_parts.Goals as goal

pub parts_at-left-requires : goal.parts_at-left-requires
parts_at-left-requires c = built-left c.args.store.now.store c.args.a.0 c.args.b.0 c.requires

pub parts_at-right-requires : goal.parts_at-right-requires
parts_at-right-requires c = built-right c.args.store.now.store c.args.a.0 c.args.b.0 c.requires

pub part_in-y-requires : goal.part_in-y-requires
part_in-y-requires c =
    let e = as-many c.args.store.now.store c.args.a.0 c.args.b.0 c.parts_at-left.result.now c.parts_at-right.result.now c.requires c.parts_at-left.ensures.parts c.parts_at-right.ensures.parts in
    omega (arith, e)

pub loop-i-preserved : goal.loop-i-preserved
loop-i-preserved c = λ d e f g.
    ap (map the_pair) c.in_ok-push.ensures.items
    ∙ pairs-added c.args.store.now.store c.args.a.0 c.args.b.0 c.loop-i.i d e c.part_in-x.result c.part_in-y.result c.loop-i.pairs.items c.args.pairs.now.items c.requires f g
    (part-among c.args.store.now.store c.args.a.0 c.loop-i.i c.part_in-x.result.0 c.parts_at-left.result.now c.parts_at-left.ensures.parts c.part_in-x.ensures)
    (part-among c.args.store.now.store c.args.b.0 c.loop-i.i c.part_in-y.result.0 c.parts_at-right.result.now c.parts_at-right.ensures.parts c.part_in-y.ensures)
    (c.loop-i.invariant d e f g)

pub returns-clause-added : goal.returns-clause-added
returns-clause-added c = λ d e f g.
    let q : c.loop-i.i ≡ length c.parts_at-left.result.now = omega arith in
    c.loop-i.invariant d e f g ∙ ap (λ n. map the_pair c.args.pairs.now.items ++ part_pairs (take n (parts_of d)) (take n (parts_of e))) q
    ∙ ap (λ xs. map the_pair c.args.pairs.now.items ++ xs) (pairs-done c.args.store.now.store c.args.a.0 c.args.b.0 (length c.parts_at-left.result.now) d e c.requires f g (parts-count c.args.store.now.store c.args.a.0 c.parts_at-left.result.now c.parts_at-left.ensures.parts))
