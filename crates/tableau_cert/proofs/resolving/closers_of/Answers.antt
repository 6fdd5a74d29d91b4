use Rattle.std.proofs.Common.{arith, ap, map, subst, sym}
use Rattle.std.specs.List.{AllByRecursion}
use Rattle.formula_core.proofs.GrownLaws.{grown-both}
use Rattle.tableau_cert.specs.Resolving.{IsNormalCloser, the_closer}
use Rattle.tableau_cert.proofs.FoundLaws.{closers-end, closers-kept, closers-next}
use Rattle.tableau_cert.proofs.SteppingLaws.{grown-none}
use Rattle.tableau_cert.proofs.resolving.closers_of.Goals as goal

pub closer_of-requires-clause-grown : goal.closer_of-requires-clause-grown
closer_of-requires-clause-grown c = grown-both _ _ _ c.requires.grown c.loop-given_move.invariant.grown

pub loop-given_move-init : goal.loop-given_move-init
loop-given_move-init c = let ls = c.args.table.now in record {
  grown = grown-none ls c.requires.grown.most;
  closers = ap (map (the_closer ls)) c.new-closers.ensures.items;
  normal = subst (AllByRecursion (IsNormalCloser ls)) (sym c.new-closers.ensures.items) tt;
}

pub loop-given_move-preserved : goal.loop-given_move-preserved
loop-given_move-preserved c = let P = c.args.problem.now in let given = c.args.given.now in let items = c.args.moves.now in let x = c.loop-given_move in let inv = x.invariant in let m = c.given_move-item.result in
    let k = c.in_ok-closer.ensures in record {
      grown = grown-both _ _ _ inv.grown k.grown;
      closers = closers-next P given x.table c.closer_of.new.table items x.given_move-index m m (omega arith) c.given_move-item.is x.closers.items c.push.new.self.items c.in_ok-closer.closer k.grown inv.closers inv.normal c.in_ok-push.ensures.items k.closer;
      normal = closers-kept x.table c.closer_of.new.table x.closers.items c.push.new.self.items c.in_ok-closer.closer k.grown inv.normal c.in_ok-push.ensures.items k.normal;
    }

pub returns : goal.returns
returns c = let P = c.args.problem.now in let given = c.args.given.now in let items = c.args.moves.now in let x = c.loop-given_move in record {
  closers = closers-end P given x.table items x.given_move-index x.closers.items x.invariant.closers (omega arith);
  grown = x.invariant.grown;
}
