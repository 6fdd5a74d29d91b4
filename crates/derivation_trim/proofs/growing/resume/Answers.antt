use Rattle.derivation_trim.specs.PlaceView.{the_splits}
use Rattle.derivation_trim.proofs.GrowthLaws.{resumed-some}
use Rattle.derivation_trim.proofs.growing.resume.Goals as goal

pub returns-in_ok-add-in-Some : goal.returns-in_ok-add-in-Some
returns-in_ok-add-in-Some c =
    resumed-some c.args.branch.now.items c.truncate.new.self.items c.args.parents.now.items c.truncate-in-Some.new.self.items c.args.table.now.items c.truncate-in-Some-2.new.self.items c.args.forks.now.items c.pop.new.self.items c.in-Some.entries c.in-Some.numbers c.in-Some.first _
    c.in-Some.ensures.items c.truncate.ensures.items c.truncate-in-Some.ensures.items c.truncate-in-Some-2.ensures.items
    (c.in_ok-add-in-Some.ensures (the_splits c.pop.new.self.items))
