use Rattle.std.proofs.Common.{arith, subst, sym}
use Rattle.connection_search.specs.Exploring.{AreAbove}
use Rattle.connection_search.proofs.GoingBackLaws.{lighter-rest}
use Rattle.connection_search.proofs.StackedLaws.{above-rest, moment-both}
use Rattle.connection_search.proofs.TryingLaws.{room-both}
use Rattle.connection_search.proofs.jumping.go_back.Goals as goal

pub go_over-requires : goal.go_over-requires
go_over-requires c = let (o, h) = c.requires in (o, c.loop-low.invariant.back o h)

pub loop-low-preserved : goal.loop-low-preserved
loop-low-preserved c =
    let (q, e) = c.in-Some.ensures.points in
    record {
      back = λ o h. c.in-Some.ensures.back o (c.loop-low.invariant.back o h);
      falls = let l = lighter-rest c.loop-low.points.items c.go_over.new.points.items q e in let f = c.loop-low.invariant.falls in omega (arith, l, f);
      above = λ k a. above-rest k c.go_over.new.points.items q (subst (AreAbove k) e (c.loop-low.invariant.above k a));
      moment = λ k g a.
          let m = c.loop-low.invariant.moment k g a in
          moment-both k c.args.store.now.store c.loop-low.store.store c.go_over.new.store.store m (c.go_over.ensures.moment k m.0 (c.loop-low.invariant.above k a));
      room = room-both c.args.store.now c.loop-low.store c.go_over.new.store c.loop-low.invariant.room c.go_over.ensures.room;
    }

pub returns-clause-back : goal.returns-clause-back
returns-clause-back c = λ o h. c.in_default.ensures.back o (c.loop-low.invariant.back o h)

pub returns-clause-above : goal.returns-clause-above
returns-clause-above c = λ k a. subst (AreAbove k) (sym c.in_default.ensures.points) (c.loop-low.invariant.above k a)

pub returns-clause-moment : goal.returns-clause-moment
returns-clause-moment c = λ k g a.
    let m = c.loop-low.invariant.moment k g a in
    moment-both k c.args.store.now.store c.loop-low.store.store c.go_over.new.store.store m (c.go_over.ensures.moment k m.0 (c.loop-low.invariant.above k a))
