use Rattle.std.proofs.Common.{sym, ◌∙◌, arith}
use Rattle.tptp_reader.proofs.StackViews.{body-found, body-stops, body-on}
use Rattle.tptp_reader.proofs.machine.is_body.Goals as goal

pub returns-then-is_after_body : goal.returns-then-is_after_body
returns-then-is_after_body c =
    sym (body-found c.args.expected.now c.loop-depth.depth _ c.loop-depth-test.true c.loop-depth.invariant.within (sym c.is_after_body.ensures ∙ c.if-is_after_body.true)) ∙ c.loop-depth.invariant.same

pub returns-then-not-is_part : goal.returns-then-not-is_part
returns-then-not-is_part c =
    sym (body-stops c.args.expected.now c.loop-depth.depth _ c.loop-depth-test.true c.loop-depth.invariant.within (sym c.is_after_body.ensures ∙ c.if-is_after_body.false) (sym c.is_part.ensures ∙ c.if-not-is_part.true)) ∙ c.loop-depth.invariant.same

pub loop-depth-preserved : goal.loop-depth-preserved
loop-depth-preserved c = record {
  same = sym (body-on c.args.expected.now c.loop-depth.depth _ c.loop-depth-test.true c.loop-depth.invariant.within (sym c.is_after_body.ensures ∙ c.if-is_after_body.false) (sym c.is_part.ensures ∙ c.if-not-is_part.false)) ∙ c.loop-depth.invariant.same;
  within = omega (arith, c.loop-depth.invariant.within);
}
