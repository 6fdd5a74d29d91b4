use Rattle.std.proofs.Common.{◌≡◌, ◌++◌, ◌∙◌, ap, arith, map, take}
use Rattle.store_theory.specs.Stores.{parts_of}
use Rattle.term_store.specs.RefView.{the_place}
use Rattle.term_unify.proofs.FlatLaws.{all-added}
use Rattle.term_unify.proofs.PairLaws.{all-done}
use Rattle.domain_cond.proofs.leaf.push_parts.Goals as goal

pub loop-i-preserved : goal.loop-i-preserved
loop-i-preserved c = λ d e.
    ap (map the_place) c.in_ok-push.ensures.items
    ∙ all-added c.args.store.now.store c.args.end.0 c.loop-i.i d c.part.result c.loop-i.items.items c.args.items.now.items e c.requires c.part.ensures.part (c.loop-i.invariant d e)

pub returns : goal.returns
returns c = λ d e.
    let q : c.loop-i.i ≡ c.parts-i-end.result = omega arith in
    c.loop-i.invariant d e ∙ ap (λ n. map the_place c.args.items.now.items ++ take n (parts_of d)) q ∙ ap (λ xs. map the_place c.args.items.now.items ++ xs) (all-done c.args.store.now.store c.args.end.0 c.parts-i-end.result d e c.requires c.parts-i-end.ensures.count)
