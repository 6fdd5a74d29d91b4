use Rattle.std.proofs.Common.{◌∙◌, length, map, sym}
use Rattle.term_store.specs.RefView.{the_place}
use Rattle.search_tree.proofs.HeadLaws.{clash-by_ends}
use Rattle.search_tree.proofs.SamenessLaws.{place-below}
use Rattle.search_tree.proofs.heads.have_clash.Goals as goal

pub head-left-requires : goal.head-left-requires
head-left-requires c = place-below (length c.args.store.now.store.cells) (map the_place c.args.xs.now) c.loop-i.i c.reference_at-x.result.0 c.requires.left c.reference_at-x.ensures

pub head-right-requires : goal.head-right-requires
head-right-requires c = place-below (length c.args.store.now.store.cells) (map the_place c.args.ys.now) c.loop-i.i c.reference_at-y.result.0 c.requires.right c.reference_at-y.ensures

pub returns-then-ends_differ : goal.returns-then-ends_differ
returns-then-ends_differ c = λ t. clash-by_ends c.args.store.now.store (map the_place c.args.xs.now) (map the_place c.args.ys.now) c.loop-i.i c.reference_at-x.result.0 c.reference_at-y.result.0 c.head-left.result c.head-right.result c.reference_at-x.ensures c.reference_at-y.ensures c.head-left.ensures c.head-right.ensures (sym c.ends_differ.ensures ∙ c.if-ends_differ.true)
