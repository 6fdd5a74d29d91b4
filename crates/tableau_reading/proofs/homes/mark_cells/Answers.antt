use Rattle.std.proofs.Common.{◌∙◌, ap, arith, length, map, refl}
use Rattle.std.proofs.lemmas.List.{length-map, take_all}
use Rattle.term_store.specs.RefView.{the_place}
use Rattle.tableau_reading.specs.Held.{mark_all}
use Rattle.tableau_reading.proofs.HeldLaws.{marked-next}
use Rattle.tableau_reading.proofs.homes.mark_cells.Goals as goal

pub loop-i-init : goal.loop-i-init
loop-i-init c = refl

pub loop-i-preserved : goal.loop-i-preserved
loop-i-preserved c = marked-next c.args.first.now.items c.loop-i.first.items c.mark_cell.new.first.items (map the_place c.args.refs.now) c.loop-i.i c.reference_at.result.0 c.args.number c.reference_at.ensures c.loop-i.invariant c.mark_cell.ensures

pub returns : goal.returns
returns c = c.loop-i.invariant ∙ ap (λ es. mark_all c.args.first.now.items es c.args.number) (take_all c.loop-i.i (map the_place c.args.refs.now) (let n = length-map c.args.refs.now the_place in omega (arith, n)))
