use Rattle.std.proofs.Common.{ap, map, sym, subst, ◌∙◌, [], List}
use Rattle.formula_core.specs.GroundTables.{IsTable, lists_from, items_of}
use Rattle.formula_core.proofs.GroundTableLaws.{lists-none, table-none}
use Rattle.formula_core.proofs.table.GroundTable.new.Goals as goal

pub invariant_of-result : goal.invariant_of-result
invariant_of-result c = subst (λ ks. IsTable (map items_of ks)) (sym c.new.ensures.empty) table-none

pub returns : goal.returns
returns c = ap (λ ks. lists_from [] (map items_of ks)) c.new.ensures.empty ∙ lists-none
