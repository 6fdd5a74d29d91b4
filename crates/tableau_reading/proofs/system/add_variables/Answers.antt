use Rattle.std.proofs.Common.{◌-◌, arith}
use Rattle.std.proofs.lemmas.Option.{slice_get-get_or}
use Rattle.tableau_reading.proofs.GatheringLaws.{strings-at, strings-end, strings-out}
use Rattle.tableau_reading.proofs.system.add_variables.Goals as goal

pub returns-then-place-sorts : goal.returns-then-place-sorts
returns-then-place-sorts c = strings-out c.args.sorts.now c.args.variables.first.0 (c.args.variables.end.0 - c.args.variables.first.0) c.args.strings.now c.loop-k.strings c.loop-k.k c.loop-k.invariant c.if-place-sorts.true

pub loop-k-preserved : goal.loop-k-preserved
loop-k-preserved c = strings-at c.args.sorts.now c.args.variables.first.0 (c.args.variables.end.0 - c.args.variables.first.0) c.args.strings.now c.loop-k.strings c.add_variable.new.strings c.loop-k.k c.at.result.0 _ c.loop-k.invariant (omega arith) (slice_get-get_or c.args.sorts.now c.loop-k.k _ (omega arith)) c.at.ensures c.in_ok-add_variable.ensures

pub returns : goal.returns
returns c = strings-end c.args.sorts.now c.args.variables.first.0 (c.args.variables.end.0 - c.args.variables.first.0) c.args.strings.now c.loop-k.strings c.loop-k.k c.loop-k.invariant (omega arith)
