use Rattle.std.proofs.Common.{arith}
use Rattle.label_table.proofs.TableLaws.{longer-self, marks-read, root-read}
use Rattle.label_table.proofs.labels.Labels.add_beginnings.Goals as goal

pub loop-mark-init : goal.loop-mark-init
loop-mark-init c = record {
  within = c.root-place.ensures.within;
  read = root-read _ _ _ c.root-place.ensures.root c.items-mark-items.ensures;
  grown = longer-self _;
  once = c.root-place.ensures.once;
}

pub returns : goal.returns
returns c = record { place = (c.loop-mark.invariant.within, marks-read _ c.items-mark-items.result.now c.loop-mark.mark-index _ (omega arith) c.loop-mark.invariant.read); grown = c.loop-mark.invariant.grown; once = c.loop-mark.invariant.once }
