use Rattle.std.proofs.Common.{◌≡◌, arith, length, refl}
use Rattle.std.proofs.lemmas.Option.{slice_get_read}
use Rattle.search_tree.proofs.SeenLaws.{above-within, goal-wanted, repeated-at}
use Rattle.search_tree.proofs.regular.repeated_above.Goals as goal

pub loop-i-init : goal.loop-i-init
loop-i-init c = above-within c.args.tree.now.steps.items c.args.tree.now.goals.items c.requires.goals.0 c.args.goal c.index-at.result.now c.requires.goals.1 (slice_get_read c.args.tree.now.goals.items (length c.args.tree.now.goals.items) c.args.goal c.index-at.result.now refl c.requires.goal c.index-at.ensures)

pub is_new-requires : goal.is_new-requires
is_new-requires c = goal-wanted c.args.tree.now.steps.items c.args.tree.now.goals.items (length c.args.store.now.store.cells) c.in-Some.ancestor c.requires.goals.0 c.requires.goals.1 c.requires.goals.2 (c.loop-i.invariant c.in-Some.ancestor c.in-Some.is)

pub returns-then-not-branch : goal.returns-then-not-branch
returns-then-not-branch c = λ n e xs g.
    repeated-at c.args.store.now.store c.args.tree.now.steps.items c.args.tree.now.goals.items n c.in-Some.ancestor (let same : c.in-Some.ancestor ≡ n = cc e in omega (arith, same)) (c.loop-i.invariant c.in-Some.ancestor c.in-Some.is) (c.in_ok-is_new-in-Some.ensures.repeated c.if-not-branch.true) xs g

pub loop-i-preserved : goal.loop-i-preserved
loop-i-preserved c = above-within c.args.tree.now.steps.items c.args.tree.now.goals.items c.requires.goals.0 c.in-Some.ancestor c.index-up.result.now c.requires.goals.1 (slice_get_read c.args.tree.now.goals.items (length c.args.tree.now.goals.items) c.in-Some.ancestor c.index-up.result.now refl (c.loop-i.invariant c.in-Some.ancestor c.in-Some.is) c.index-up.ensures)
