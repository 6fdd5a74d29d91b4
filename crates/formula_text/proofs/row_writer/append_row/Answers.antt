use Rattle.std.proofs.Common.{refl, sym, subst, ◌++◌, drop, ◌+◌}
use Rattle.calculus.specs.Text.{term_text}
use Rattle.formula_text.specs.RowWriting.{IsBetween}
use Rattle.formula_text.proofs.Extending.{Extends-trans}
use Rattle.formula_text.proofs.RowsWritten.{all-written, item-at}
use Rattle.formula_text.proofs.row_writer.append_row.Goals as goal

pub append_item-requires : goal.append_item-requires
append_item-requires c = (item-at c.args.symbols.now _ c.loop-item.out.items c.loop-item.left.items c.items-item-items.result.now c.loop-item.item-index _ _ c.loop-item-test.true refl c.loop-item.invariant.writing).known

pub loop-item-preserved : goal.loop-item-preserved
loop-item-preserved c =
    let at = item-at c.args.symbols.now _ c.loop-item.out.items c.loop-item.left.items c.items-item-items.result.now c.loop-item.item-index _ _ c.loop-item-test.true refl c.loop-item.invariant.writing in
    let next = at.next c.append_item.new.out.items c.in_ok-append_item.ensures.ok in record {
      writing = c.in_ok-append_between.ensures.ok c.args.symbols.now _ _ (subst (λ n. IsBetween c.args.symbols.now (c.args.out.now.items ++ term_text c.args.symbols.now 0 c.args.row.now) c.append_item.new.out.items c.loop-item.left.items n (drop (c.loop-item.item-index + 1) c.items-item-items.result.now)) (sym c.arity_of.ensures) next);
      extends = Extends-trans c.args.out.now.items c.append_item.new.out.items c.append_between.new.out.items (Extends-trans c.args.out.now.items c.loop-item.out.items c.append_item.new.out.items c.loop-item.invariant.extends c.in_ok-append_item.ensures.extends) c.in_ok-append_between.ensures.extends;
    }

pub returns-clause-ok : goal.returns-clause-ok
returns-clause-ok c = all-written c.args.symbols.now _ c.loop-item.out.items c.loop-item.left.items c.items-item-items.result.now c.loop-item.item-index c.loop-item-test.false c.loop-item.invariant.writing
