use Rattle.std.proofs.Common.{◌≡◌, ◌-◌, ap, arith, length}
use Rattle.tableau_cert.proofs.BuildingLaws.{extension-pushed}
use Rattle.tableau_cert.proofs.building.extension.Goals as goal

pub returns : goal.returns
returns c ls = let i = c.args.instance in
    let e = ap length c.items.ensures in
    let s = c.saturating_sub-count.ensures in
    let n : c.saturating_sub-count.result ≡ length i.literals - 1 = omega (arith, e, s) in
    extension-pushed ls c.args.stack.now.items c.first_closings.new.stack.items c.push.new.self.items i c.args.place c.saturating_sub-count.result c.in_ok-goals.goals c.in_ok-goals.ensures.closings c.in_ok-goals.ensures.rest n c.in_ok-push.ensures.items
