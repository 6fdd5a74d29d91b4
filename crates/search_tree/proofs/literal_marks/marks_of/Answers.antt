use Rattle.std.proofs.Common.{arith}
use Rattle.std.proofs.lemmas.Option.{slice_get_within}
use Rattle.term_store.specs.ClauseView.{the_atom}
use Rattle.search_tree.proofs.AheadLaws.{IsMarkedBy, marks-goal, marked-literal}
use Rattle.search_tree.proofs.Places.{read-there}
use Rattle.search_tree.proofs.WayUpLaws.{up-all, up-ancestor, up-first, up-next, up-none}
use Rattle.search_tree.proofs.literal_marks.marks_of.Goals as goal

pub loop-i-init : goal.loop-i-init
loop-i-init c = record {
  up = up-first (IsMarkedBy c.with_mark-marks.result) c.args.tree.now.steps.items c.args.tree.now.goals.items c.args.goal c.index-at.result.now (read-there c.args.tree.now.goals.items c.args.goal c.index-at.result.now c.requires.1.goal c.requires.1.stands c.index-at.ensures);
  own = λ x g. marked-literal c.args.tree.now.steps.items c.args.tree.now.goals.items c.args.goal c.with_mark-marks.result (the_atom c.atom-own.result.now) x g c.atom-own.ensures c.with_mark-marks.ensures.own;
}

pub returns-in-None : goal.returns-in-None
returns-in-None c = λ x g. marks-goal c.loop-i.marks x (c.loop-i.invariant.own x g) (up-none (IsMarkedBy c.loop-i.marks) c.args.tree.now.steps.items c.args.tree.now.goals.items c.args.goal c.loop-i.above c.loop-i._i c.loop-i.invariant.up c.in-None.is x g)

pub atom-signed-requires : goal.atom-signed-requires
atom-signed-requires c =
    let w = up-ancestor (IsMarkedBy c.loop-i.marks) c.args.tree.now.steps.items c.args.tree.now.goals.items c.args.goal c.loop-i.above c.in-Some.ancestor c.loop-i._i c.requires.0 c.loop-i.invariant.up c.in-Some.is c.requires.1 in
    (w.goal, w.atom, w.stands, w.is_atom)

pub index-requires : goal.index-requires
index-requires c =
    let w = up-ancestor (IsMarkedBy c.loop-i.marks) c.args.tree.now.steps.items c.args.tree.now.goals.items c.args.goal c.loop-i.above c.in-Some.ancestor c.loop-i._i c.requires.0 c.loop-i.invariant.up c.in-Some.is c.requires.1 in
    let l = slice_get_within c.args.tree.now.goals.items c.in-Some.ancestor w.goal w.stands in
    let n = c.args.tree.now.goals.ok.0 in
    omega (arith, l, n)

pub loop-i-preserved : goal.loop-i-preserved
loop-i-preserved c =
    let w = up-ancestor (IsMarkedBy c.loop-i.marks) c.args.tree.now.steps.items c.args.tree.now.goals.items c.args.goal c.loop-i.above c.in-Some.ancestor c.loop-i._i c.requires.0 c.loop-i.invariant.up c.in-Some.is c.requires.1 in
    record {
      up = up-next (IsMarkedBy c.with_mark-more.result) (IsMarkedBy c.loop-i.marks) c.args.tree.now.steps.items c.args.tree.now.goals.items c.args.goal c.loop-i.above c.in-Some.ancestor c.loop-i._i c.index.result.now (the_atom c.atom-signed.result.now) c.loop-i.invariant.up c.in-Some.is (read-there c.args.tree.now.goals.items c.in-Some.ancestor c.index.result.now w.goal w.stands c.index.ensures) c.atom-signed.ensures (λ x g. c.with_mark-more.ensures.own) (λ x a h. c.with_mark-more.ensures.others _ h);
      own = λ x g. c.with_mark-more.ensures.others _ (c.loop-i.invariant.own x g);
    }

pub returns : goal.returns
returns c = λ x g. marks-goal c.loop-i.marks x (c.loop-i.invariant.own x g) (up-all (IsMarkedBy c.loop-i.marks) c.args.tree.now.steps.items c.args.tree.now.goals.items c.args.goal c.loop-i.above c.loop-i._i c.index-at.result.now c.loop-i.invariant.up (read-there c.args.tree.now.goals.items c.args.goal c.index-at.result.now g.goal g.stands c.index-at.ensures) (omega arith) x g)
