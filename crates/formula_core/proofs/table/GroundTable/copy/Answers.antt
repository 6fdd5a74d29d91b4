use Rattle.std.proofs.Common.{◌≡◌, map, take, ap, subst, sym, ◌∙◌, []}
use Rattle.formula_core.specs.GroundTables.{items_of, lists_from, IsTable}
use Rattle.formula_core.proofs.CopyLaws.{copied-step, copied-whole}
use Rattle.formula_core.proofs.table.GroundTable.copy.Goals as goal

pub loop-entry-preserved : goal.loop-entry-preserved
loop-entry-preserved c = copied-step c.as_slice-given.result.now c.loop-entry.entries.keys c.insert.new.self.keys c.in_ok-copy.field-0 c.entry-item.result c.entry-item.result c.loop-entry.entry-index (subst (λ keys. IsTable (map items_of keys)) (sym c.as_slice-given.ensures.keys) c.self.invariant) c.loop-entry.invariant c.loop-entry-test.true c.entry-item.is c.in_ok-copy.ensures c.in_ok-insert.ensures.keys

pub invariant_of-result : goal.invariant_of-result
invariant_of-result c = subst IsTable (sym (copied-whole c.as_slice-given.result.now c.loop-entry.entries.keys c.loop-entry.entry-index c.loop-entry.invariant c.loop-entry-test.false ∙ ap (map items_of) c.as_slice-given.ensures.keys)) c.self.invariant

pub returns : goal.returns
returns c = ap (lists_from []) (copied-whole c.as_slice-given.result.now c.loop-entry.entries.keys c.loop-entry.entry-index c.loop-entry.invariant c.loop-entry-test.false ∙ ap (map items_of) c.as_slice-given.ensures.keys) ∙ c.self.view_is
