use Rattle.std.proofs.Common.{◌+◌, arith, drop}
use Rattle.std.proofs.lemmas.Option.{slice_get_within}
use Rattle.term_store.specs.ClauseView.{the_atom}
use Rattle.search_tree.specs.GoalKeys.{variables_in}
use Rattle.search_tree.proofs.KeyLaws.{next-reading, reads-all, reads-ancestor, reads-first, reads-next, reads-none, start-reading}
use Rattle.search_tree.proofs.Places.{read-there}
use Rattle.search_tree.proofs.goal_key.GoalKey.read.Goals as goal

pub read_literal-requires : goal.read_literal-requires
read_literal-requires c = (c.requires.0, c.requires.0.path, start-reading c.args.store.now.store c.args.tree.now.steps.items c.args.tree.now.goals.items c.args.goal (variables_in c.forget.new.self) c.forget.new.self.parts.items (the_atom c.atom-signed.result.now) c.requires.0 c.forget.ensures.variables c.forget.ensures.parts c.atom-signed.ensures c.requires.1 c.requires.2)

pub loop-i-init : goal.loop-i-init
loop-i-init c = reads-first c.args.store.now.store c.args.tree.now.steps.items c.args.tree.now.goals.items c.args.goal (variables_in c.forget.new.self) (variables_in c.read_literal.new.self) c.forget.new.self.parts.items c.read_literal.new.self.parts.items c.index-at.result.now (the_atom c.atom-signed.result.now) c.forget.ensures.variables c.forget.ensures.parts (read-there c.args.tree.now.goals.items c.args.goal c.index-at.result.now c.requires.1.goal c.requires.1.stands c.index-at.ensures) c.atom-signed.ensures (c.in_ok-own.ensures c.if-not-own.false)

pub returns-in-None : goal.returns-in-None
returns-in-None c = λ t x g l. reads-none c.args.store.now.store c.args.tree.now.steps.items c.args.tree.now.goals.items c.args.goal (variables_in c.loop-i.self) c.loop-i.self.parts.items c.loop-i.above c.loop-i._i c.loop-i.invariant c.in-None.is x g l

pub atom-literal-requires : goal.atom-literal-requires
atom-literal-requires c =
    let w = reads-ancestor c.args.store.now.store c.args.tree.now.steps.items c.args.tree.now.goals.items c.args.goal (variables_in c.loop-i.self) c.loop-i.self.parts.items c.loop-i.above c.in-Some.ancestor c.loop-i._i c.requires.0 c.loop-i.invariant c.in-Some.is c.requires.1 in
    (w.goal, w.atom, w.stands, w.is_atom)

pub read_literal-requires-in-Some : goal.read_literal-requires-in-Some
read_literal-requires-in-Some c = (c.requires.0, drop (c.loop-i._i + 1) c.requires.0.path, next-reading c.args.store.now.store c.args.tree.now.steps.items c.args.tree.now.goals.items c.args.goal (variables_in c.loop-i.self) c.loop-i.self.parts.items c.loop-i.above c.in-Some.ancestor c.loop-i._i (the_atom c.atom-literal.result.now) c.requires.0 c.loop-i.invariant c.in-Some.is c.atom-literal.ensures c.requires.1 c.requires.2)

pub index-requires : goal.index-requires
index-requires c =
    let w = reads-ancestor c.args.store.now.store c.args.tree.now.steps.items c.args.tree.now.goals.items c.args.goal (variables_in c.loop-i.self) c.loop-i.self.parts.items c.loop-i.above c.in-Some.ancestor c.loop-i._i c.requires.0 c.loop-i.invariant c.in-Some.is c.requires.1 in
    let l = slice_get_within c.args.tree.now.goals.items c.in-Some.ancestor w.goal w.stands in
    let n = c.args.tree.now.goals.ok.0 in
    omega (arith, l, n)

pub loop-i-preserved : goal.loop-i-preserved
loop-i-preserved c =
    let w = reads-ancestor c.args.store.now.store c.args.tree.now.steps.items c.args.tree.now.goals.items c.args.goal (variables_in c.loop-i.self) c.loop-i.self.parts.items c.loop-i.above c.in-Some.ancestor c.loop-i._i c.requires.0 c.loop-i.invariant c.in-Some.is c.requires.1 in
    reads-next c.args.store.now.store c.args.tree.now.steps.items c.args.tree.now.goals.items c.args.goal (variables_in c.loop-i.self) (variables_in c.read_literal-in-Some.new.self) c.loop-i.self.parts.items c.read_literal-in-Some.new.self.parts.items c.loop-i.above c.in-Some.ancestor c.loop-i._i c.index.result.now (the_atom c.atom-literal.result.now) c.loop-i.invariant c.in-Some.is (read-there c.args.tree.now.goals.items c.in-Some.ancestor c.index.result.now w.goal w.stands c.index.ensures) c.atom-literal.ensures (c.in_ok-read-in-Some.ensures c.if-not-read.false)

pub returns : goal.returns
returns c = λ t x g l. reads-all c.args.store.now.store c.args.tree.now.steps.items c.args.tree.now.goals.items c.args.goal (variables_in c.loop-i.self) c.loop-i.self.parts.items c.loop-i.above c.loop-i._i c.index-at.result.now c.loop-i.invariant (read-there c.args.tree.now.goals.items c.args.goal c.index-at.result.now g.goal g.stands c.index-at.ensures) (omega arith) x g l
