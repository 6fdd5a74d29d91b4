use Rattle.std.proofs.Common.{ap, arith}
use Rattle.tableau_core.specs.Numbered.ClosingView.{the_closing}
use Rattle.tableau_cert.proofs.FlatteningLaws.{flat-begins, flat-ends, flat-extension, flat-next}
use Rattle.tableau_cert.proofs.flattening.+flattening.Goals as goal

pub put_moves-returns-in_ok-put_all_moves-in-Extend : goal.put_moves-returns-in_ok-put_all_moves-in-Extend
put_moves-returns-in_ok-put_all_moves-in-Extend t c ls = let e = c.in-Extend in flat-extension ls c.args.moves.now.items c.push-in-Extend.new.self.items c.put_all_moves.new.moves.items c.in_ok-extension-in-Extend.extension e.instance e.literal e.goals _ c.in_ok-push-in-Extend.ensures.items (c.in_ok-extension-in-Extend.ensures ls) (c.in_ok-put_all_moves-in-Extend.ensures ls) (ap the_closing e.is)

pub put_all_moves-loop-i-init : goal.put_all_moves-loop-i-init
put_all_moves-loop-i-init t c ls = flat-begins ls c.args.moves.now.items c.items-items.result.now

pub put_all_moves-loop-i-preserved : goal.put_all_moves-loop-i-preserved
put_all_moves-loop-i-preserved t c ls = flat-next ls c.args.moves.now.items c.loop-i.moves.items c.put_moves.new.moves.items c.items-items.result.now c.loop-i.i _ _ (c.loop-i.invariant ls) (c.in_ok-put_moves.ensures ls) (omega arith) c.index-items-i.is

pub put_all_moves-returns : goal.put_all_moves-returns
put_all_moves-returns t c ls = flat-ends ls c.args.moves.now.items c.loop-i.moves.items c.items-items.result.now c.args.closings.now c.loop-i.i (c.loop-i.invariant ls) (omega arith) c.items-items.ensures
