use Rattle.std.proofs.Common.{◌≡◌, ◌++◌, ◌∙◌, ap, arith, map, take}
use Rattle.store_theory.specs.Stores.{string_cell}
use Rattle.term_store.specs.RefView.{the_place}
use Rattle.term_unify.proofs.FlatLaws.{all-added}
use Rattle.term_unify.proofs.PairLaws.{all-done}
use Rattle.term_unify.proofs.flat.push_parts.Goals as goal

pub loop-i-preserved : goal.loop-i-preserved
loop-i-preserved c = λ d e.
    ap (map the_place) c.in_ok-push.ensures.items
    ∙ all-added c.args.store.now.store c.args.end.0 c.loop-i.i d c.part.result c.loop-i.marks.items c.args.marks.now.items e c.requires c.part.ensures.part (c.loop-i.invariant d e)

pub returns : goal.returns
returns c = λ ks e.
    let q : c.loop-i.i ≡ c.parts-i-end.result = omega arith in
    c.loop-i.invariant (string_cell ks) e ∙ ap (λ n. map the_place c.args.marks.now.items ++ take n ks) q ∙ ap (λ xs. map the_place c.args.marks.now.items ++ xs) (all-done c.args.store.now.store c.args.end.0 c.parts-i-end.result (string_cell ks) e c.requires c.parts-i-end.ensures.count)
