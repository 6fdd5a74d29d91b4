use Rattle.std.proofs.Common.{ap, arith}
use Rattle.problem_build.specs.Adding.{with_new}
use Rattle.problem_build.specs.Expansion.{same_name}
use Rattle.problem_build.specs.Walk.{names_of}
use Rattle.problem_build.proofs.NameSetLaws.{places-end, places-next}
use Rattle.problem_build.proofs.name_set.set_of_places.Goals as goal

pub loop-item-init : goal.loop-item-init
loop-item-init c = ap (λ s. with_new same_name s (names_of c.args.places.now)) c.new-set.ensures

pub loop-item-preserved : goal.loop-item-preserved
loop-item-preserved c =
    places-next c.args.places.now c.loop-item.item-index c.item-item.result c.loop-item.set c.add.new.self _ (omega arith) c.item-item.is
    c.in_ok-add.ensures c.loop-item.invariant

pub returns : goal.returns
returns c = places-end c.args.places.now c.loop-item.set c.loop-item.item-index (omega arith) c.loop-item.invariant
