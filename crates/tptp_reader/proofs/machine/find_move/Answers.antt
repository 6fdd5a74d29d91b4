use Rattle.std.proofs.Common.{sym, ◌∙◌, ap, arith}
use Rattle.tptp_reader.specs.ExpectedView.{the_next}
use Rattle.tptp_reader.specs.TerminalView.{the_terminal}
use Rattle.tptp_reader.proofs.StackViews.{step-found, step-stuck, step-passed}
use Rattle.tptp_reader.proofs.NestingLaws.{top-within, below-within}
use Rattle.tptp_reader.proofs.machine.find_move.Goals as goal

pub next_move-requires : goal.next_move-requires
next_move-requires c = top-within c.args.expected.now c.loop-depth.depth _ c.loop-depth-test.true c.loop-depth.invariant.within c.loop-depth.invariant.shallow

pub returns-in-Some-clause-found : goal.returns-in-Some-clause-found
returns-in-Some-clause-found c =
    sym (step-found c.args.modal c.args.expected.now c.loop-depth.depth _ (the_terminal c.args.x) c.in-Some.next c.loop-depth-test.true c.loop-depth.invariant.within (ap the_next (sym c.in-Some.is) ∙ c.next_move.ensures))
    ∙ c.loop-depth.invariant.same

pub returns-then-not-is_optional-clause-found : goal.returns-then-not-is_optional-clause-found
returns-then-not-is_optional-clause-found c =
    sym (step-stuck c.args.modal c.args.expected.now c.loop-depth.depth _ (the_terminal c.args.x) c.loop-depth-test.true c.loop-depth.invariant.within (ap the_next (sym c.in_default.is) ∙ c.next_move.ensures) (sym c.is_optional.ensures ∙ c.if-not-is_optional.true))
    ∙ c.loop-depth.invariant.same

pub loop-depth-preserved : goal.loop-depth-preserved
loop-depth-preserved c = record {
  same = sym (step-passed c.args.modal c.args.expected.now c.loop-depth.depth _ (the_terminal c.args.x) c.loop-depth-test.true c.loop-depth.invariant.within (ap the_next (sym c.in_default.is) ∙ c.next_move.ensures) (sym c.is_optional.ensures ∙ c.if-not-is_optional.false))
      ∙ c.loop-depth.invariant.same;
  within = omega (arith, c.loop-depth.invariant.within);
  shallow = below-within c.args.expected.now c.loop-depth.depth c.loop-depth-test.true c.loop-depth.invariant.within c.loop-depth.invariant.shallow;
}
