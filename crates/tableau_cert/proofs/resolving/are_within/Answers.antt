use Rattle.std.proofs.Common.{◌∙◌, ap, arith, refl, sym}
use Rattle.std.specs.List.{list_all}
use Rattle.calculus.specs.Tableaux.{has_at_most}
use Rattle.formula_core.specs.GroundLists.{the_value}
use Rattle.tableau_cert.proofs.FoundLaws.{all-ends, all-next, all-stops}
use Rattle.tableau_cert.proofs.resolving.are_within.Goals as goal

pub loop-item-init : goal.loop-item-init
loop-item-init c n e = ap (list_all (has_at_most n)) c.values-items.ensures.list

pub loop-item-preserved : goal.loop-item-preserved
loop-item-preserved c n e = all-next (has_at_most n) (the_value c.args.table.now) c.values-items.result.now c.loop-item.item-index _ _ _ (c.loop-item.invariant n e) (omega arith) refl (sym (c.is_within.ensures n e) ∙ c.if-not-is_within.false)

pub returns-then-not-is_within : goal.returns-then-not-is_within
returns-then-not-is_within c n e = all-stops (has_at_most n) (the_value c.args.table.now) c.values-items.result.now c.loop-item.item-index _ _ _ (c.loop-item.invariant n e) (omega arith) refl (sym (c.is_within.ensures n e) ∙ c.if-not-is_within.true)

pub returns : goal.returns
returns c n e = all-ends (has_at_most n) (the_value c.args.table.now) c.values-items.result.now c.loop-item.item-index _ (c.loop-item.invariant n e) (omega arith)
