use Rattle.std.proofs.Common.{ap, arith}
use Rattle.problem_build.specs.Adding.{with_new}
use Rattle.problem_build.specs.Expansion.{same_name}
use Rattle.problem_build.proofs.NameSetLaws.{names-end, names-next}
use Rattle.problem_build.proofs.name_set.set_of.Goals as goal

pub loop-name-init : goal.loop-name-init
loop-name-init c = ap (λ s. with_new same_name s c.args.names.now) c.new-set.ensures

pub loop-name-preserved : goal.loop-name-preserved
loop-name-preserved c =
    names-next c.args.names.now c.loop-name.name-index c.name-item.result c.loop-name.set c.add.new.self _ (omega arith) c.name-item.is
    c.in_ok-add.ensures c.loop-name.invariant

pub returns : goal.returns
returns c = names-end c.args.names.now c.loop-name.set c.loop-name.name-index (omega arith) c.loop-name.invariant
