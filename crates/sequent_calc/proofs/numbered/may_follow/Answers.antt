use Rattle.std.proofs.Common.{rules}
use Rattle.sequent_calc.proofs.ByNumber.{rising-push}
use Rattle.sequent_calc.proofs.numbered.may_follow.Goals as goal

pub returns-in-Some : goal.returns-in-Some
returns-in-Some g c = λ home le rising. rising-push c.args.items.now c.args.number home c.in-Some.last.now (search rules) rising le
