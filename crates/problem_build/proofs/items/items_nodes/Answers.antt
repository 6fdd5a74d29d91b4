use Rattle.std.proofs.Common.{◌∙◌, arith, map, sym}
use Rattle.tptp_reader.specs.SourceView.{the_source}
use Rattle.problem_build.specs.Expansion.{closed}
use Rattle.problem_build.proofs.ItemLaws.{nodes-end, nodes-next, nodes-next_deep}
use Rattle.problem_build.proofs.MeasuringLaws.{measured-capped}
use Rattle.problem_build.proofs.items.items_nodes.Goals as goal

pub loop-body-init : goal.loop-body-init
loop-body-init c = (omega arith, λ symbols. measured-capped (map (closed symbols) (map the_source c.args.items.now)))

pub returns-in_default : goal.returns-in_default
returns-in_default c = λ symbols.
    nodes-next_deep symbols c.args.items.now c.loop-body.body-index c.body-item.result c.loop-body.total _
    (omega arith) c.body-item.is (sym c.in_default.is ∙ c.in_ok-measured.ensures symbols) (c.loop-body.invariant.1 symbols)

pub loop-body-preserved : goal.loop-body-preserved
loop-body-preserved c = (
  omega arith,
  λ symbols.
      nodes-next symbols c.args.items.now c.loop-body.body-index c.body-item.result c.loop-body.total c.in-Some.nodes c.sum-total.result _
      (omega arith) c.body-item.is (sym c.in-Some.is ∙ c.in_ok-measured.ensures symbols) (omega (arith, c.sum-total.ensures, c.sum.ensures))
      (c.loop-body.invariant.1 symbols),
)

pub returns : goal.returns
returns c = λ symbols.
    nodes-end symbols c.args.items.now c.loop-body.body-index c.loop-body.total _ (omega arith) (omega arith) (c.loop-body.invariant.1 symbols)
