use Rattle.std.proofs.Common.{◌≡◌, arith, length}
use Rattle.plain_laws.proofs.Lists.{no-items}
use Rattle.derivation_trim.proofs.PassLaws.{resumed-none, resumed-some}
use Rattle.derivation_trim.proofs.passes.resume.Goals as goal

pub returns-in_ok-push-in-Some : goal.returns-in_ok-push-in-Some
returns-in_ok-push-in-Some c = λ go.
    resumed-some go c.args.branch.now.items c.truncate.new.self.items c.push.new.self.items c.args.forks.now.items c.pop.new.self.items c.in-Some.length c.in-Some.first
    c.in-Some.ensures.items c.truncate.ensures.items c.in_ok-push-in-Some.ensures.items

pub returns-in-None : goal.returns-in-None
returns-in-None c = λ go.
    let old_ok = c.args.forks.now.ok.0 in
    let old_zero = c.in-None.ensures.cases.0 in
    let new_ok = c.pop.new.self.ok.0 in
    let new_zero = c.in-None.ensures.cases.1 in
    let old_none : length c.args.forks.now.items ≡ 0 = omega (arith, old_ok, old_zero) in
    let new_none : length c.pop.new.self.items ≡ 0 = omega (arith, new_ok, new_zero) in
    resumed-none go c.args.branch.now.items c.args.forks.now.items c.pop.new.self.items (no-items c.args.forks.now.items old_none) (no-items c.pop.new.self.items new_none)
