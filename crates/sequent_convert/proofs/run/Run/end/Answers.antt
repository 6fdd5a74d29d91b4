use Rattle.std.proofs.Common.{arith}
use Rattle.std.proofs.lemmas.List.{length-map}
use Rattle.sequent_convert.specs.ByNumber.NodeView.{the_node}
use Rattle.sequent_convert.specs.ByNumber.RunView.{the_lists, the_run, the_source, the_table}
use Rattle.sequent_convert.proofs.ByNumber.StandLaws.{now-stands}
use Rattle.sequent_convert.proofs.run.Run.end.Goals as goal

pub end_now-requires-clause-pair : goal.end_now-requires-clause-pair
end_now-requires-clause-pair c =
    let many = length-map c.args.self.now.branch.nodes.items (the_node (the_lists c.args.source.now)) in
    let ended = rw c.in-None.is at c.extension.ensures (the_table c.args.source.now) in
    λ none. now-stands (the_source c.args.source.now) c.requires.basis (the_run c.args.source.now c.args.self.now) c.requires.run c.requires.is_open c.requires.ahead ended (λ j m lj lm. none j m (omega (arith, many, lj)) (omega (arith, many, lm)))

pub extend-requires-clause-extended : goal.extend-requires-clause-extended
extend-requires-clause-extended c = rw c.in-Some.is at c.extension.ensures (the_table c.args.source.now)
