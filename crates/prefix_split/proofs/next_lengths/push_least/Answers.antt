use Rattle.std.proofs.Common.{◌≡◌, ◌∙◌, ◌+◌, ◌-◌, ◌++◌, ◌∷◌, [], ap, arith}
use Rattle.prefix_split.specs.LengthLists.{least_list}
use Rattle.prefix_split.proofs.LengthListLaws.{least-end, least-step}
use Rattle.prefix_split.proofs.next_lengths.push_least.Goals as goal

pub loop-left-preserved : goal.loop-left-preserved
loop-left-preserved c =
    let x = c.args.range.least in
    let p = c.args.range.spread in
    let items = c.loop-left.lengths.items in
    let left = c.loop-left.left - 1 in
    let t = c.loop-left.above in
    let here = c.first_above-here.result in
    let same : c.from-above.result ≡ here = c.from-above.ensures in
    let value = c.first_above-here.ensures.value in
    record {
      whole = ap (λ xs. xs ++ least_list x p left (t - c.from-above.result)) c.in_ok-push.ensures.items
          ∙ ap (λ z. (items ++ (x + here) ∷ []) ++ least_list x p left (t - z)) same
          ∙ least-step x p items (c.args.lengths.now.items ++ least_list x p c.args.count c.args.above) c.loop-left.left left t here c.loop-left.invariant.whole (omega arith) value;
      room = omega (arith, same, value);
    }

pub returns : goal.returns
returns c = least-end c.args.range.least c.args.range.spread c.loop-left.lengths.items (c.args.lengths.now.items ++ least_list c.args.range.least c.args.range.spread c.args.count c.args.above) c.loop-left.left c.loop-left.above c.loop-left.invariant.whole (omega arith)
