use Rattle.std.proofs.Common.{◌≡◌, arith, length}
use Rattle.tableau_text.proofs.PieceLaws.{work-begun, work-done, work-falls, work-same, work-written, written-rest}
use Rattle.tableau_text.proofs.values_writer.write_values.Goals as goal

pub loop-piece-init : goal.loop-piece-init
loop-piece-init c = record {
  text = work-begun c.args.symbols.now c.args.table.now c.args.out.now.items c.push.new.self.items _ (rw c.new-stack.ensures.items at c.in_ok-push.ensures.items);
  written = work-written c.args.symbols.now c.args.table.now c.push.new.self.items _ (rw c.new-stack.ensures.items at c.in_ok-push.ensures.items) c.requires;
}

pub write_piece-requires : goal.write_piece-requires
write_piece-requires c = (written-rest c.args.symbols.now c.args.table.now c.pop.new.self.items c.loop-piece.stack.items c.in-Some.piece c.in-Some.ensures.items c.loop-piece.invariant.written).1

pub loop-piece-preserved : goal.loop-piece-preserved
loop-piece-preserved c = record {
  text = work-same c.args.symbols.now c.args.table.now _ c.loop-piece.out.items c.write_piece.new.out.items c.loop-piece.stack.items c.pop.new.self.items c.write_piece.new.stack.items c.in-Some.piece c.in-Some.ensures.items c.in_ok-write_piece.ensures c.loop-piece.invariant.text;
  written = c.in_ok-write_piece.ensures.written (written-rest c.args.symbols.now c.args.table.now c.pop.new.self.items c.loop-piece.stack.items c.in-Some.piece c.in-Some.ensures.items c.loop-piece.invariant.written).0;
}

pub loop-piece-smaller : goal.loop-piece-smaller
loop-piece-smaller c = work-falls c.args.symbols.now c.args.table.now c.loop-piece.out.items c.write_piece.new.out.items c.loop-piece.stack.items c.pop.new.self.items c.write_piece.new.stack.items c.in-Some.piece c.in-Some.ensures.items c.in_ok-write_piece.ensures

pub returns : goal.returns
returns c =
    let ok = c.loop-piece.stack.ok.0 in
    let zero = c.in_default.ensures.cases.0 in
    let none : length c.loop-piece.stack.items ≡ 0 = omega (arith, ok, zero) in
    work-done c.args.symbols.now c.args.table.now _ c.loop-piece.out.items c.loop-piece.stack.items none c.loop-piece.invariant.text
