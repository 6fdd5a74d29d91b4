use Rattle.sequent_convert.specs.ByNumber.RunView.{the_lists}
use Rattle.sequent_convert.proofs.ByNumber.PairLaws.{pair-told}
use Rattle.sequent_convert.proofs.branch.told_pair.Goals as goal

pub returns : goal.returns
returns c = pair-told (the_lists c.args.source.now) c.table-table.result.now c.args.nodes.now _ c.in_ok-pair.pair c.table-table.ensures c.in_ok-pair.ensures
