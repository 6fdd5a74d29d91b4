use Rattle.std.proofs.Common.{ap, ◌∙◌, arith}
use Rattle.cop_cells.specs.Layout.{laid, spots_of}
use Rattle.cop_cells.proofs.LayoutLaws.{last-block, no-pages}
use Rattle.cop_cells.proofs.pages.Pages.drop.Goals as goal

pub free-requires : goal.free-requires
free-requires g c =
    (last-block (spots_of c.loop-block.table.items) c.pop.new.self.items c.in-Some.block
    (c.loop-block.invariant ∙ ap laid c.in-Some.ensures.items)).1

pub loop-block-preserved : goal.loop-block-preserved
loop-block-preserved g c =
    c.free.ensures
    ∙ (last-block (spots_of c.loop-block.table.items) c.pop.new.self.items c.in-Some.block
    (c.loop-block.invariant ∙ ap laid c.in-Some.ensures.items)).0

pub destroy_empty-requires : goal.destroy_empty-requires
destroy_empty-requires g c = omega (
  arith,
  c.loop-block.table.ok.0,
  no-pages c.loop-block.table.items c.loop-block.blocks.items c.loop-block.invariant
      (omega (arith, c.in_default.ensures.cases.0, c.loop-block.blocks.ok.0)),
)
