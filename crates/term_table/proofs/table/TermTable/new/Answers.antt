use Rattle.std.proofs.Common.{[], map, sym, subst, ap, ◌∙◌}
use Rattle.term_table.specs.Table.{AreBelow, lists_from}
use Rattle.term_table.proofs.TableLaws.{below-none, lists-none}
use Rattle.term_table.proofs.table.TermTable.new.Goals as goal

pub invariant_of-result : goal.invariant_of-result
invariant_of-result c = subst (λ vs. AreBelow 0 (map (λ v. v.items) vs)) (sym c.new.ensures.items) below-none

pub returns : goal.returns
returns c = ap (λ vs. lists_from [] (map (λ v. v.items) vs)) c.new.ensures.items ∙ lists-none
