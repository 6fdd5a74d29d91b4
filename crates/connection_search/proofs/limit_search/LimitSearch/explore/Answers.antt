use Rattle.std.proofs.Common.{◌<◌, ◌++◌, ◌∙◌, arith, refl, subst, sym}
use Rattle.plain_laws.proofs.Lists.{no-items}
use Rattle.connection_search.specs.Exploring.{IsEnd}
use Rattle.search_tree.specs.Weights.{work_left}
use Rattle.connection_search.proofs.StackedLaws.{moment-both, moment-itself}
use Rattle.connection_search.proofs.TryingLaws.{explored-all, on-there, room-both}
use Rattle.connection_search.proofs.SpentLaws.{counted}
use Rattle.connection_search.proofs.limit_search.LimitSearch.explore.Goals as goal

pub loop-ledger-init : goal.loop-ledger-init
loop-ledger-init c = record {
  exploring = λ base later begun space e. e;
  failed = c.requires.failed;
  budget = refl;
  moment = λ k g a. moment-itself k c.args.store.now.store g;
  above = λ k g a. a;
  room = (omega arith, omega arith);
}

pub try_next-requires-clause-exploring : goal.try_next-requires-clause-exploring
try_next-requires-clause-exploring c = let (base, later, begun, space, e) = c.requires.exploring in (base, later, begun, space, (c.loop-ledger.invariant.exploring base later begun space e))

pub returns-in_err-try_next-clause-counted : goal.returns-in_err-try_next-clause-counted
returns-in_err-try_next-clause-counted c = λ base later begun space e. c.try_next.ensures.counted base later begun space (c.loop-ledger.invariant.exploring base later begun space e)

pub returns-in_err-try_next-clause-budget : goal.returns-in_err-try_next-clause-budget
returns-in_err-try_next-clause-budget c = c.try_next.ensures.budget ∙ c.loop-ledger.invariant.budget

pub returns-in_err-try_next-clause-moment : goal.returns-in_err-try_next-clause-moment
returns-in_err-try_next-clause-moment c = λ k g a.
    let m = c.loop-ledger.invariant.moment k g a in
    moment-both k c.args.store.now.store c.loop-ledger.store.store c.try_next.new.store.store m (c.try_next.ensures.moment k m.0 (c.loop-ledger.invariant.above k g a))

pub returns-in_err-try_next-clause-room : goal.returns-in_err-try_next-clause-room
returns-in_err-try_next-clause-room c = room-both c.args.store.now c.loop-ledger.store c.try_next.new.store c.loop-ledger.invariant.room c.try_next.ensures.room

pub returns-in-Closed-clause-end : goal.returns-in-Closed-clause-end
returns-in-Closed-clause-end c = λ base later begun space e. subst (λ v. IsEnd c.args.self.now.problem.now c.args.self.now.limit begun c.try_next.new.ledger.used c.try_next.new.ledger.budget v) c.in-Closed.is (c.in_ok-try_next.ensures.end base later begun space (c.loop-ledger.invariant.exploring base later begun space e))

pub returns-in-Closed-clause-counted : goal.returns-in-Closed-clause-counted
returns-in-Closed-clause-counted c = λ base later begun space e. c.try_next.ensures.counted base later begun space (c.loop-ledger.invariant.exploring base later begun space e)

pub returns-in-Closed-clause-budget : goal.returns-in-Closed-clause-budget
returns-in-Closed-clause-budget c = c.try_next.ensures.budget ∙ c.loop-ledger.invariant.budget

pub returns-in-Closed-clause-moment : goal.returns-in-Closed-clause-moment
returns-in-Closed-clause-moment c = λ k g a.
    let m = c.loop-ledger.invariant.moment k g a in
    moment-both k c.args.store.now.store c.loop-ledger.store.store c.try_next.new.store.store m (c.try_next.ensures.moment k m.0 (c.loop-ledger.invariant.above k g a))

pub returns-in-Closed-clause-room : goal.returns-in-Closed-clause-room
returns-in-Closed-clause-room c = room-both c.args.store.now c.loop-ledger.store c.try_next.new.store c.loop-ledger.invariant.room c.try_next.ensures.room

pub returns-in-Steps-clause-end : goal.returns-in-Steps-clause-end
returns-in-Steps-clause-end c = λ base later begun space e. subst (λ v. IsEnd c.args.self.now.problem.now c.args.self.now.limit begun c.try_next.new.ledger.used c.try_next.new.ledger.budget v) c.in-Steps.is (c.in_ok-try_next.ensures.end base later begun space (c.loop-ledger.invariant.exploring base later begun space e))

pub returns-in-Steps-clause-counted : goal.returns-in-Steps-clause-counted
returns-in-Steps-clause-counted c = λ base later begun space e. c.try_next.ensures.counted base later begun space (c.loop-ledger.invariant.exploring base later begun space e)

pub returns-in-Steps-clause-budget : goal.returns-in-Steps-clause-budget
returns-in-Steps-clause-budget c = c.try_next.ensures.budget ∙ c.loop-ledger.invariant.budget

pub returns-in-Steps-clause-moment : goal.returns-in-Steps-clause-moment
returns-in-Steps-clause-moment c = λ k g a.
    let m = c.loop-ledger.invariant.moment k g a in
    moment-both k c.args.store.now.store c.loop-ledger.store.store c.try_next.new.store.store m (c.try_next.ensures.moment k m.0 (c.loop-ledger.invariant.above k g a))

pub returns-in-Steps-clause-room : goal.returns-in-Steps-clause-room
returns-in-Steps-clause-room c = room-both c.args.store.now c.loop-ledger.store c.try_next.new.store c.loop-ledger.invariant.room c.try_next.ensures.room

pub loop-ledger-smaller : goal.loop-ledger-smaller
loop-ledger-smaller c =
    let falls = on-there _ _ c.in-On.is c.in_ok-try_next.ensures.falls in
    subst (λ b. work_left b c.try_next.new.ledger.used c.try_next.new.points.items < work_left c.loop-ledger.ledger.budget c.loop-ledger.ledger.used c.loop-ledger.points.items) (sym c.try_next.ensures.budget)
    falls

pub loop-ledger-preserved : goal.loop-ledger-preserved
loop-ledger-preserved c = record {
  exploring = λ base later begun space e. on-there _ _ c.in-On.is c.in_ok-try_next.ensures.on base later begun space (c.loop-ledger.invariant.exploring base later begun space e);
  failed = c.in_ok-try_next.ensures.failed;
  budget = c.try_next.ensures.budget ∙ c.loop-ledger.invariant.budget;
  moment = λ k g a.
      let m = c.loop-ledger.invariant.moment k g a in
      moment-both k c.args.store.now.store c.loop-ledger.store.store c.try_next.new.store.store m (c.try_next.ensures.moment k m.0 (c.loop-ledger.invariant.above k g a));
  above = λ k g a. c.in_ok-try_next.ensures.above k (c.loop-ledger.invariant.moment k g a).0 (c.loop-ledger.invariant.above k g a);
  room = room-both c.args.store.now c.loop-ledger.store c.try_next.new.store c.loop-ledger.invariant.room c.try_next.ensures.room;
}

pub returns-clause-on : goal.returns-clause-on
returns-clause-on c = λ base later begun space e.
    let n = c.loop-ledger.points.ok.0 in
    let m = c.len.ensures in
    let z = c.loop-ledger-test.false in
    explored-all c.args.self.now.problem.now c.args.self.now.matrix.now base c.args.self.now.limit c.loop-ledger.store.store c.loop-ledger.work.tree.steps.items c.loop-ledger.work.tree.goals.items c.loop-ledger.points.items later begun c.loop-ledger.ledger.used c.loop-ledger.left (c.loop-ledger.invariant.exploring base later begun space e) (no-items c.loop-ledger.points.items (omega (arith, n, m, z)))

pub returns-clause-counted : goal.returns-clause-counted
returns-clause-counted c = λ base later begun space e.
    let now = c.loop-ledger.invariant.exploring base later begun space e in
    counted c.args.self.now.problem.now c.args.self.now.limit (now.pending ++ later) begun c.loop-ledger.ledger.used c.loop-ledger.left now.searched

pub returns-clause-budget : goal.returns-clause-budget
returns-clause-budget c = c.loop-ledger.invariant.budget

pub returns-clause-moment : goal.returns-clause-moment
returns-clause-moment c = c.loop-ledger.invariant.moment

pub returns-clause-room : goal.returns-clause-room
returns-clause-room c = c.loop-ledger.invariant.room

pub try_next-requires-clause-failed : goal.try_next-requires-clause-failed
try_next-requires-clause-failed c = c.loop-ledger.invariant.failed

pub returns-clause-failed : goal.returns-clause-failed
returns-clause-failed c = c.loop-ledger.invariant.failed
