use Rattle.std.proofs.Common.{◌∙◌, ap, arith, length, map, refl, subst, sym}
use Rattle.domain_cond.specs.Leaves.{AreLeaves}
use Rattle.term_store.specs.ClauseView.{the_gamma}
use Rattle.term_store.specs.declared.clause.GammaUse.{GammaUse}
use Rattle.term_store.specs.RefView.{the_place}
use Rattle.tableau_reading.specs.Held.{AreFirst, mark_all}
use Rattle.tableau_reading.proofs.HeldLaws.{first-next}
use Rattle.tableau_reading.proofs.PartLaws.{gamma-below}
use Rattle.tableau_reading.proofs.ReadingLaws.{viewed}
use Rattle.tableau_reading.proofs.homes.first_held.Goals as goal

pub loop-i-init : goal.loop-i-init
loop-i-init c = c.in_ok-first.ensures (map the_gamma c.args.gammas.now)

pub leaves-requires : goal.leaves-requires
leaves-requires c = gamma-below (length c.args.store.now.store.cells) (map the_gamma c.args.gammas.now) c.args.gammas.now c.loop-i.i c.index-gammas-i.result c.requires refl (omega arith)

pub loop-i-preserved : goal.loop-i-preserved
loop-i-preserved c = first-next c.args.store.now.store (map the_gamma c.args.gammas.now) c.loop-i.i _ (the_gamma c.index-gammas-i.result) (map the_place c.in_ok-held.held.items) c.loop-i.first.items c.mark_cells.new.first.items (viewed the_gamma c.args.gammas.now c.loop-i.i c.index-gammas-i.result (omega arith) c.index-gammas-i.is) (subst (λ (d : GammaUse). AreLeaves c.args.store.now.store d.term.0 (map the_place c.in_ok-held.held.items)) (sym c.index-gammas-i.is) c.in_ok-held.ensures) c.loop-i.invariant (c.mark_cells.ensures ∙ ap (λ (rs : _). mark_all c.loop-i.first.items (map the_place rs) c.loop-i.i) c.deref.ensures.value) refl

pub returns : goal.returns
returns c = subst (λ n. AreFirst c.args.store.now.store (map the_gamma c.args.gammas.now) n c.loop-i.first.items) (omega arith) c.loop-i.invariant
