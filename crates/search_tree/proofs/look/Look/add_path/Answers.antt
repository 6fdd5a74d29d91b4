use Rattle.std.proofs.Common.{arith}
use Rattle.std.proofs.lemmas.Option.{slice_get_within}
use Rattle.term_store.specs.ClauseView.{the_atom}
use Rattle.search_tree.specs.Looking.{waiting_in}
use Rattle.search_tree.proofs.LookingLaws.{AreWaiting, gathers-all, gathers-first, gathers-next, gathers-none}
use Rattle.search_tree.proofs.Places.{read-there}
use Rattle.search_tree.proofs.WayUpLaws.{up-ancestor}
use Rattle.search_tree.proofs.look.Look.add_path.Goals as goal

pub loop-i-init : goal.loop-i-init
loop-i-init c = gathers-first (waiting_in c.args.self.now) (waiting_in c.add_atom.new.self) c.args.tree.now.steps.items c.args.tree.now.goals.items c.args.goal c.index-at.result.now (the_atom c.atom-own.result.now) (read-there c.args.tree.now.goals.items c.args.goal c.index-at.result.now c.requires.1.goal c.requires.1.stands c.index-at.ensures) c.atom-own.ensures c.in_ok-add_atom.ensures

pub returns-in-None : goal.returns-in-None
returns-in-None c = λ x g. gathers-none (waiting_in c.args.self.now) (waiting_in c.loop-i.self) c.args.tree.now.steps.items c.args.tree.now.goals.items c.args.goal c.loop-i.above c.loop-i._i c.loop-i.invariant c.in-None.is x g

pub atom-signed-requires : goal.atom-signed-requires
atom-signed-requires c =
    let w = up-ancestor (AreWaiting (waiting_in c.loop-i.self)) c.args.tree.now.steps.items c.args.tree.now.goals.items c.args.goal c.loop-i.above c.in-Some.ancestor c.loop-i._i c.requires.0 c.loop-i.invariant.up c.in-Some.is c.requires.1 in
    (w.goal, w.atom, w.stands, w.is_atom)

pub index-requires : goal.index-requires
index-requires c =
    let w = up-ancestor (AreWaiting (waiting_in c.loop-i.self)) c.args.tree.now.steps.items c.args.tree.now.goals.items c.args.goal c.loop-i.above c.in-Some.ancestor c.loop-i._i c.requires.0 c.loop-i.invariant.up c.in-Some.is c.requires.1 in
    let l = slice_get_within c.args.tree.now.goals.items c.in-Some.ancestor w.goal w.stands in
    let n = c.args.tree.now.goals.ok.0 in
    omega (arith, l, n)

pub loop-i-preserved : goal.loop-i-preserved
loop-i-preserved c =
    let w = up-ancestor (AreWaiting (waiting_in c.loop-i.self)) c.args.tree.now.steps.items c.args.tree.now.goals.items c.args.goal c.loop-i.above c.in-Some.ancestor c.loop-i._i c.requires.0 c.loop-i.invariant.up c.in-Some.is c.requires.1 in
    gathers-next (waiting_in c.args.self.now) (waiting_in c.loop-i.self) (waiting_in c.add_atom-in-Some.new.self) c.args.tree.now.steps.items c.args.tree.now.goals.items c.args.goal c.loop-i.above c.in-Some.ancestor c.loop-i._i c.index.result.now (the_atom c.atom-signed.result.now) c.loop-i.invariant c.in-Some.is (read-there c.args.tree.now.goals.items c.in-Some.ancestor c.index.result.now w.goal w.stands c.index.ensures) c.atom-signed.ensures c.in_ok-add_atom-in-Some.ensures

pub returns : goal.returns
returns c = λ x g. gathers-all (waiting_in c.args.self.now) (waiting_in c.loop-i.self) c.args.tree.now.steps.items c.args.tree.now.goals.items c.args.goal c.loop-i.above c.loop-i._i c.index-at.result.now c.loop-i.invariant (read-there c.args.tree.now.goals.items c.args.goal c.index-at.result.now g.goal g.stands c.index-at.ensures) (omega arith) x g
