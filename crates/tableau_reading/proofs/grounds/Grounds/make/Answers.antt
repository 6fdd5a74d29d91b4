use Rattle.std.proofs.Common.{Some, ◌∙◌, ap, length, subst, sym, arith}
use Rattle.formula_core.specs.GroundLists.{IsGrown}
use Rattle.formula_core.proofs.GrownLaws.{grown-both}
use Rattle.tableau_reading.specs.Waiting.{WaitBySpares}
use Rattle.tableau_reading.proofs.GroundLaws.{grown-self}
use Rattle.tableau_reading.proofs.MakingLaws.{set-length}
use Rattle.tableau_reading.proofs.PartLaws.{end-within, ends-last, ends-more, no-ends}
use Rattle.tableau_reading.proofs.WaitingLaws.{asked-there, begun-asked, begun-of, last-made, reading-settled, same-made, waits-first}
use Rattle.tableau_reading.proofs.grounds.Grounds.make.Goals as goal

pub is_asked-requires : goal.is_asked-requires
is_asked-requires c = omega (arith, end-within c.args.store.now.store c.args.end.0 c.requires.end, c.requires.reading.marked)

pub ask-requires : goal.ask-requires
ask-requires c = omega (arith, end-within c.args.store.now.store c.args.end.0 c.requires.end, c.requires.reading.marked)

pub returns-then-is_asked-clause-grown : goal.returns-then-is_asked-clause-grown
returns-then-is_asked-clause-grown c = grown-self c.args.self.now.table c.requires.reading.most

pub returns-then-is_asked-clause-made : goal.returns-then-is_asked-clause-made
returns-then-is_asked-clause-made c = c.requires.reading.settled c.args.end.0 (c.is_asked.ensures ∙ ap Some c.if-is_asked.true)

pub loop-top-init : goal.loop-top-init
loop-top-init c = record {
  there = ends-more c.args.store.now.store c.push.new.self.items c.new-waiting.result.items c.args.end c.in_ok-push.ensures.items (no-ends c.args.store.now.store c.new-waiting.result.items c.new-waiting.ensures.items) c.requires.end;
  reading = begun-asked c.args.store.now.store c.args.homes.now c.args.self.now c.ask.new.self (begun-of c.args.store.now.store c.args.homes.now c.args.self.now c.requires.reading) c.ask.ensures.table c.ask.ensures.made (ap length c.ask.ensures.asked ∙ set-length c.args.self.now.asked.items c.args.end.0 _);
  grown = subst (IsGrown c.args.self.now.table) (sym c.ask.ensures.table) (grown-self c.args.self.now.table c.requires.reading.most);
  waits = waits-first c.args.store.now.store c.args.homes.now c.args.self.now c.ask.new.self c.new-waiting.result.items c.push.new.self.items c.args.end c.requires.reading c.ask.ensures.made c.ask.ensures.asked c.new-waiting.ensures.items c.in_ok-push.ensures.items;
  asked = asked-there c.args.self.now c.ask.new.self c.args.end.0 (omega (arith, end-within c.args.store.now.store c.args.end.0 c.requires.end, c.requires.reading.marked)) c.ask.ensures.asked;
  kept = same-made c.args.self.now c.ask.new.self c.ask.ensures.made;
}

pub make_top-requires-clause-end : goal.make_top-requires-clause-end
make_top-requires-clause-end c = (ends-last c.args.store.now.store c.loop-top.waiting.items c.pop.new.self.items c.in-Some.top c.in-Some.ensures.items c.loop-top.invariant.there).1

pub make_top-requires-clause-there : goal.make_top-requires-clause-there
make_top-requires-clause-there c = (ends-last c.args.store.now.store c.loop-top.waiting.items c.pop.new.self.items c.in-Some.top c.in-Some.ensures.items c.loop-top.invariant.there).0

pub make_top-requires-clause-waits : goal.make_top-requires-clause-waits
make_top-requires-clause-waits c = subst (WaitBySpares c.args.store.now.store c.args.homes.now c.loop-top.self) c.in-Some.ensures.items c.loop-top.invariant.waits

pub loop-top-preserved : goal.loop-top-preserved
loop-top-preserved c = record {
  there = c.in_ok-make_top.ensures.there;
  reading = c.in_ok-make_top.ensures.reading;
  grown = grown-both _ _ _ c.loop-top.invariant.grown c.in_ok-make_top.ensures.grown;
  waits = c.in_ok-make_top.ensures.waits;
  asked = c.in_ok-make_top.ensures.asked c.args.end.0 c.loop-top.invariant.asked;
  kept = λ r m. c.in_ok-make_top.ensures.kept r (c.loop-top.invariant.kept r m);
}

pub returns-clause-reading : goal.returns-clause-reading
returns-clause-reading c = reading-settled c.args.store.now.store c.args.homes.now c.loop-top.self c.loop-top.waiting.items c.requires.spares c.loop-top.invariant.reading c.loop-top.invariant.waits (let n = c.in_default.ensures.cases.0 in omega (arith, n, c.loop-top.waiting.ok.0))

pub returns-clause-made : goal.returns-clause-made
returns-clause-made c = last-made c.args.store.now.store c.args.homes.now c.loop-top.self c.loop-top.waiting.items c.args.end.0 c.requires.spares c.loop-top.invariant.waits (let n = c.in_default.ensures.cases.0 in omega (arith, n, c.loop-top.waiting.ok.0)) c.loop-top.invariant.asked
