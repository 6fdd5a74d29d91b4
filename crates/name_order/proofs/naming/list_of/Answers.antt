use Rattle.std.proofs.Common.{ap, arith, map, refl, ◌∙◌}
use Rattle.std.proofs.lemmas.List.{take_all}
use Rattle.formula_core.specs.GroundLists.{the_value}
use Rattle.name_order.proofs.ByNumber.GrowLaws.{all-grown, keeps}
use Rattle.name_order.proofs.naming.list_of.Goals as goal

pub returns-clause-list : goal.returns-clause-list
returns-clause-list c =
    let ls = c.args.source.now in
    let table = c.args.naming.now.table in
    c.in_ok-list.ensures.list
    ∙ ap (map (the_value table)) c.deref.ensures.value
    ∙ all-grown ls table c.requires.good.grown c.loop-value.normal.items c.loop-value.invariant.normal
    ∙ c.loop-value.invariant.list
    ∙ ap (map (the_value ls)) (take_all c.loop-value.value-index c.args.values.now (omega arith))

pub returns-clause-kept : goal.returns-clause-kept
returns-clause-kept c = keeps c.args.source.now c.args.naming.now _ c.requires.good c.in_ok-list.ensures.grown refl refl
