use Rattle.std.proofs.Common.{arith, ◌≡◌, ◌≤◌, ◌∙◌, sym, length, min}
use Rattle.calculus.specs.Choices.{side_cmp}
use Rattle.tableau_core.proofs.Comparing.{compare-end}
use Rattle.tableau_core.proofs.choice.compare_sides.Goals as goal

pub returns : goal.returns
returns c = let a = c.args.s.now in let b = c.args.t.now in let n = c.min-i-end.result in let i = c.loop-i.i in
    let e : n ≡ min (length a) (length b) = c.min-i-end.ensures in
    let t : n ≤ i = c.loop-i-test.false in
    let u : i ≤ n = c.loop-i.auto.i-end in
    c.cmp.ensures ∙ sym (compare-end side_cmp a b i (omega arith) (omega arith) (omega arith)) ∙ c.loop-i.invariant
