use Rattle.std.proofs.Common.{[], ◌≡◌, length, ap, ◌∙◌, arith}
use Rattle.calculus.specs.Versions.{label_line}
use Rattle.derivation_text.proofs.WritingLaws.{among-next, lines-done, lines-written}
use Rattle.derivation_text.proofs.table_writer.write_labels.Goals as goal

pub write_label_line-requires : goal.write_label_line-requires
write_label_line-requires c =
    let size : c.count-i-end.result ≡ length c.args.d.now.labels = c.count-i-end.ensures ∙ ap length c.labels.ensures.list in
    let within = c.loop-i-test.true in
    record { among = among-next (length c.args.d.now.labels) c.loop-i.i (omega (arith, size, within)); written = c.requires.written }

pub loop-i-preserved : goal.loop-i-preserved
loop-i-preserved c =
    let size : c.count-i-end.result ≡ length c.args.d.now.labels = c.count-i-end.ensures ∙ ap length c.labels.ensures.list in
    let within = c.loop-i-test.true in
    lines-written label_line c.args.d.now.labels [] c.loop-i.i c.loop-i.out.items c.write_label_line.new.out.items _ (omega (arith, size, within)) c.in_ok-write_label_line.ensures c.loop-i.invariant

pub returns : goal.returns
returns c =
    let size : c.count-i-end.result ≡ length c.args.d.now.labels = c.count-i-end.ensures ∙ ap length c.labels.ensures.list in
    let end = c.loop-i-test.false in
    lines-done label_line c.args.d.now.labels c.loop-i.i c.loop-i.out.items _ (omega (arith, size, end)) c.loop-i.invariant
