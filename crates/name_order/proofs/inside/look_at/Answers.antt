use Rattle.std.proofs.Common.{subst}
use Rattle.formula_core.specs.GroundLists.{list_at}
use Rattle.name_order.specs.ByNumber.Seeing.{Sees}
use Rattle.name_order.proofs.ByNumber.InsideLaws.{of-each, sees-both}
use Rattle.name_order.proofs.inside.look_at.Goals as goal

pub returns-clause-sees : goal.returns-clause-sees
returns-clause-sees c =
    let ls = c.args.table.now in
    let rest = sees-both ls c.look_at_terms.new.search c.look_at_marks.new.search c.look_at_values.new.search _ _ c.in_ok-look_at_marks.ensures.sees c.in_ok-look_at_values.ensures.sees in
    subst (Sees ls c.args.search.now c.look_at_values.new.search) (of-each (list_at ls c.args.number)) (sees-both ls c.args.search.now c.look_at_terms.new.search c.look_at_values.new.search _ _ c.in_ok-look_at_terms.ensures.sees rest)
