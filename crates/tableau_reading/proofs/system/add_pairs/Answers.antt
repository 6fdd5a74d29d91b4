use Rattle.std.proofs.Common.{arith}
use Rattle.std.proofs.lemmas.Option.{slice_get_within}
use Rattle.tableau_reading.proofs.GatheringLaws.{pair-ancestor, pair-wanted, pairs-end, pairs-next, pairs-out}
use Rattle.search_tree.proofs.Places.{read-there}
use Rattle.tableau_reading.proofs.system.add_pairs.Goals as goal

pub returns-in-None : goal.returns-in-None
returns-in-None c = pairs-out c.args.tree.now.steps.items c.args.tree.now.goals.items c.args.goal c.loop-i._i c.args.pairs.now c.loop-i.pairs c.loop-i.above c.loop-i.invariant c.in-None.is

pub add_pair-requires-clause-upper : goal.add_pair-requires-clause-upper
add_pair-requires-clause-upper c = pair-wanted c.args.tree.now.steps.items c.args.tree.now.goals.items c.args.goal c.in-Some.ancestor c.loop-i._i c.args.pairs.now c.loop-i.pairs c.loop-i.above c.requires.0 c.loop-i.invariant c.in-Some.is c.requires.1

pub index-requires : goal.index-requires
index-requires c =
    let w = pair-ancestor c.args.tree.now.steps.items c.args.tree.now.goals.items c.args.goal c.in-Some.ancestor c.loop-i._i c.args.pairs.now c.loop-i.pairs c.loop-i.above c.requires.0 c.loop-i.invariant c.in-Some.is c.requires.1 in
    let l = slice_get_within c.args.tree.now.goals.items c.in-Some.ancestor w.goal w.stands in
    let n = c.args.tree.now.goals.ok.0 in
    omega (arith, l, n)

pub loop-i-preserved : goal.loop-i-preserved
loop-i-preserved c =
    let w = pair-ancestor c.args.tree.now.steps.items c.args.tree.now.goals.items c.args.goal c.in-Some.ancestor c.loop-i._i c.args.pairs.now c.loop-i.pairs c.loop-i.above c.requires.0 c.loop-i.invariant c.in-Some.is c.requires.1 in
    pairs-next c.args.tree.now.steps.items c.args.tree.now.goals.items c.args.goal c.in-Some.ancestor c.loop-i._i c.args.pairs.now c.loop-i.pairs c.add_pair.new.pairs c.loop-i.above c.index.result.now c.loop-i.invariant c.in-Some.is (read-there c.args.tree.now.goals.items c.in-Some.ancestor c.index.result.now w.goal w.stands c.index.ensures) c.in_ok-add_pair-in-Some.ensures

pub returns : goal.returns
returns c = λ x g. pairs-end c.args.tree.now.steps.items c.args.tree.now.goals.items c.args.goal c.loop-i._i c.args.pairs.now c.loop-i.pairs c.loop-i.above c.index-at.result.now c.loop-i.invariant (read-there c.args.tree.now.goals.items c.args.goal c.index-at.result.now g.goal g.stands c.index-at.ensures) (omega arith) x g
