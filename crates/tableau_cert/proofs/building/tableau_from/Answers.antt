use Rattle.std.proofs.Common.{arith}
use Rattle.calculus.specs.Lists.{closings_tree}
use Rattle.tableau_cert.proofs.BuildingLaws.{all-taken}
use Rattle.tableau_cert.proofs.building.tableau_from.Goals as goal

pub returns : goal.returns
returns c = let ls = c.args.resolved.table in
    let n = c.len-lists.ensures.len in let m = c.len-lists.ensures.most in
    let start = c.instance_in.ensures ls (omega (arith, n, m)) in
    let l = c.len-count.ensures in let ok = c.in_ok-stack.stack.ok.0 in
    let goals = all-taken ls c.in_ok-stack.stack.items c.in_ok-goals.goals c.len-count.result _ (c.in_ok-stack.ensures ls) (omega (arith, l, ok)) c.in_ok-goals.ensures.closings in
    λ i. record { start = start i; goals = closings_tree (goals i) }
