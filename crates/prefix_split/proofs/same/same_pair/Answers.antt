use Rattle.std.proofs.Common.{arith, map}
use Rattle.std.proofs.lemmas.List.{length-map}
use Rattle.term_store.specs.SystemView.{the_pair}
use Rattle.prefix_split.proofs.SameLaws.{apart-all, apart-next, apart-start, pair-atoms}
use Rattle.prefix_split.proofs.same.same_pair.Goals as goal

pub loop-i-init : goal.loop-i-init
loop-i-init c = apart-start c.args.store.now.store (map the_pair c.args.pairs.now)

pub are_same-requires-clause-left : goal.are_same-requires-clause-left
are_same-requires-clause-left c = (pair-atoms c.args.store.now.store (map the_pair c.args.pairs.now) c.loop-i.i (the_pair c.pair_at-pair.result.now) c.requires.fits c.pair_at-pair.ensures).0

pub are_same-requires-clause-right : goal.are_same-requires-clause-right
are_same-requires-clause-right c = (pair-atoms c.args.store.now.store (map the_pair c.args.pairs.now) c.loop-i.i (the_pair c.pair_at-pair.result.now) c.requires.fits c.pair_at-pair.ensures).1

pub are_same-requires-clause-free_left : goal.are_same-requires-clause-free_left
are_same-requires-clause-free_left c = (c.requires.free c.loop-i.i (the_pair c.pair_at-pair.result.now) c.pair_at-pair.ensures).0

pub are_same-requires-clause-free_right : goal.are_same-requires-clause-free_right
are_same-requires-clause-free_right c = (c.requires.free c.loop-i.i (the_pair c.pair_at-pair.result.now) c.pair_at-pair.ensures).1

pub returns-then-branch-clause-same : goal.returns-then-branch-clause-same
returns-then-branch-clause-same c = (the_pair c.pair_at-pair.result.now, c.pair_at-pair.ensures, c.in_ok-are_same.ensures.same c.if-branch.true)

pub loop-i-preserved : goal.loop-i-preserved
loop-i-preserved c = apart-next c.args.store.now.store (map the_pair c.args.pairs.now) c.loop-i.i (the_pair c.pair_at-pair.result.now) c.loop-i.invariant c.pair_at-pair.ensures (c.in_ok-are_same.ensures.different c.if-branch.false)

pub returns-clause-apart : goal.returns-clause-apart
returns-clause-apart c = λ e.
    let n = length-map c.args.pairs.now the_pair in
    apart-all c.args.store.now.store (map the_pair c.args.pairs.now) c.loop-i.i c.loop-i.invariant (omega (arith, n))
