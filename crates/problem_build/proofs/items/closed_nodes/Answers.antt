use Rattle.std.proofs.Common.{◌∙◌, ap, arith, length}
use Rattle.tptp_reader.specs.SourceView.{the_source}
use Rattle.problem_build.proofs.ItemLaws.{nodes-deep_free, nodes-deep_inside, nodes-flat}
use Rattle.problem_build.proofs.items.closed_nodes.Goals as goal

pub returns-then-inner-gt-MAX_ITEM_NESTING : goal.returns-then-inner-gt-MAX_ITEM_NESTING
returns-then-inner-gt-MAX_ITEM_NESTING c = λ symbols.
    nodes-deep_inside symbols (the_source c.args.body.now) c.in_ok-inner.inner c.in_ok-inner.ensures c.if-inner-gt-MAX_ITEM_NESTING.true

pub returns-then-saturating_add-gt-MAX_ITEM_NESTING : goal.returns-then-saturating_add-gt-MAX_ITEM_NESTING
returns-then-saturating_add-gt-MAX_ITEM_NESTING c = λ symbols.
    nodes-deep_free symbols (the_source c.args.body.now) c.in_ok-inner.inner c.len-count.result c.in_ok-inner.ensures
    (c.len-count.ensures ∙ ap length c.in_ok-free.ensures) (omega (arith, c.saturating_add.ensures, c.if-saturating_add-gt-MAX_ITEM_NESTING.true))

pub returns : goal.returns
returns c = λ symbols.
    nodes-flat symbols (the_source c.args.body.now) c.in_ok-inner.inner c.len-count.result c.nodes_of.result c.sum.result c.in_ok-inner.ensures
    (omega arith) (c.len-count.ensures ∙ ap length c.in_ok-free.ensures) (omega (arith, c.saturating_add.ensures, c.if-saturating_add-gt-MAX_ITEM_NESTING.false))
    c.nodes_of.ensures (omega (arith, c.sum.ensures))
