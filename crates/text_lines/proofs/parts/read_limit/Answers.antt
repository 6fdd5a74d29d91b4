use Rattle.std.proofs.Common.{arith}
use Rattle.text_lines.proofs.PartLaws.{limit-within}
use Rattle.text_lines.proofs.parts.read_limit.Goals as goal
use Rattle.text_lines.proofs.parts.read_limit.Goals.{else-n-ge1-via-then-n-ge1+else-n-from, else-n-ge1-via-else-n-ge1}

pub returns-else-n-ge1-clause-none : goal.returns-else-n-ge1-clause-none
returns-else-n-ge1-clause-none c = λ _ n h. let b = limit-within c.args.text.now _ c.in_ok-n.ensures.some n h in elim c.else-n-ge1.branch [
  | else-n-ge1-via-then-n-ge1+else-n-from w ↦ let x = w.if-n-from.false in absurd (omega arith)
  | else-n-ge1-via-else-n-ge1 w ↦ let x = w.if-n-ge1.false in absurd (omega arith)
]
