use Rattle.std.proofs.Common.{arith}
use Rattle.label_table.proofs.labels.Labels.shorter.Goals as goal

pub returns-then-length-least-clause-before : goal.returns-then-length-least-clause-before
returns-then-length-least-clause-before c =
    let rung = c.rung-rung.ensures in
    let before = rung.before (let size = rung.size in omega (arith, size, c.requires.longer)) in
    let jump = rung.jump in
    omega (arith, before, jump)
