use Rattle.std.proofs.Common.{◌∙◌, [], get_or, arith}
use Rattle.label_table.proofs.BeginningLaws.{prefix-end, prefix-shorter}
use Rattle.label_table.proofs.labels.Labels.begins.Goals as goal

pub loop-at-preserved : goal.loop-at-preserved
loop-at-preserved c =
    let now = c.args.self.now in
    let way = c.shorter-at.ensures in
    record {
      within = omega (arith, way.before, c.loop-at.invariant.within);
      same = prefix-shorter (get_or now c.args.first []) (get_or now c.shorter-at.result []) (get_or now c.loop-at.at []) (get_or now c.args.second []) way.begins (omega (arith, way.least, c.length-least.ensures)) c.loop-at.invariant.same;
    }

pub returns : goal.returns
returns c =
    let now = c.args.self.now in
    c.are_equal.ensures ∙ prefix-end (get_or now c.args.first []) (get_or now c.loop-at.at []) (get_or now c.args.second []) (omega (arith, c.length.ensures, c.length-least.ensures, c.loop-at-test.false)) c.loop-at.invariant.same
