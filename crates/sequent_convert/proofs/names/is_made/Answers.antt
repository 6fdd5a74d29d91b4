use Rattle.std.proofs.Common.{◌≡◌, sym, ◌∙◌}
use Rattle.formula_core.specs.declared.ground.GroundMark.TheVariants as mark
use Rattle.sequent_convert.proofs.ByNumber.MadeNames.{made-told}
use Rattle.sequent_convert.proofs.names.is_made.Goals as goal

pub returns-then-eq : goal.returns-then-eq
returns-then-eq c =
    let new : c.in-Mark-New.field-0 ≡ mark.New c.in-Mark-New.p c.in-Mark-New.list = rw c.in-Mark-New.is at c.in-Mark-New.field-0-is in
    made-told c.args.table.now c.args.name c.in-Mark-New.field-0 c.in-Mark-New.p c.args.position c.in-Mark-New.list c.values.result.now c.args.taken.now c.are_same_values.result c.in-Mark-New.is new (sym c.eq.ensures ∙ c.if-eq.true) c.values.ensures.list c.are_same_values.ensures
