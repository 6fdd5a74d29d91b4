use Rattle.std.proofs.Common.{sym, ◌∙◌, arith, ◌∷◌, [], refl}
use Rattle.tptp_reader.proofs.ClauseReading.{more-begun, more-on}
use Rattle.tptp_reader.specs.Expecting.{literal, literals_rest}
use Rattle.tptp_reader.specs.Failing.{OnStacks, Behind, FailsAt}
use Rattle.tptp_reader.proofs.FailLaws.{fails-next, stops-at}
use Rattle.tptp_reader.proofs.ClauseFails.{fails-barred, fails-unbarred}
use Rattle.tptp_reader.proofs.clause_reader.read_more.Goals as goal

pub bars-init : goal.bars-init
bars-init c = record { read = more-begun c.args.before c.args.p; settles = λ modal es b h. h; onward = omega arith; within = c.requires.within }

pub bars-preserved : goal.bars-preserved
bars-preserved c = record {
  read = more-on _ c.requires.shallow c.bars.invariant.read (sym c.is_bar.ensures ∙ c.bars-test.true) c.in_ok-start.ensures.next c.in_ok-literal.ensures.read c.in_ok-push.ensures.ok;
  settles = λ modal es b h. c.bars.invariant.settles modal es b (fails-barred modal c.args.depth es (sym c.is_bar.ensures ∙ c.bars-test.true) (fails-next modal (literal c.args.depth ∷ literals_rest c.args.depth ∷ es) refl c.in_ok-start.ensures.next (c.in_ok-literal.ensures.settles modal (literals_rest c.args.depth ∷ es) b h)));
  onward = omega (arith, c.bars.invariant.onward, c.in_ok-start.ensures.onward, c.in_ok-literal.ensures.onward);
  within = c.in_ok-literal.ensures.within;
}

pub returns-clause-read : goal.returns-clause-read
returns-clause-read c = c.bars.invariant.read

pub returns-clause-ended : goal.returns-clause-ended
returns-clause-ended c = sym c.is_bar.ensures ∙ c.bars-test.false

pub returns-in_err-start-clause-settles : goal.returns-in_err-start-clause-settles
returns-in_err-start-clause-settles c = λ modal.
    stops-at modal c.args.text.now (literals_rest c.args.depth ∷ []) c.args.p (OnStacks (Behind modal c.args.text.now c.bars.here.end)) c.from_residual.result c.in_err-start.field-0.0 c.from_residual.ensures.1 (c.in_err-start.ensures.settles modal)
    (λ h es b. c.bars.invariant.settles modal es b (fails-barred modal c.args.depth es (sym c.is_bar.ensures ∙ c.bars-test.true) (h (literal c.args.depth ∷ literals_rest c.args.depth ∷ es) refl)))

pub returns-in_err-literal-clause-settles : goal.returns-in_err-literal-clause-settles
returns-in_err-literal-clause-settles c = λ modal.
    stops-at modal c.args.text.now (literals_rest c.args.depth ∷ []) c.args.p (OnStacks (λ es. FailsAt modal c.args.text.now (literal c.args.depth ∷ es) c.in_ok-start.start)) c.from_residual-in_err-literal.result c.in_err-literal.field-0.0 c.from_residual-in_err-literal.ensures.1 (c.in_err-literal.ensures.settles modal)
    (λ h es b. c.bars.invariant.settles modal es b (fails-barred modal c.args.depth es (sym c.is_bar.ensures ∙ c.bars-test.true) (fails-next modal (literal c.args.depth ∷ literals_rest c.args.depth ∷ es) refl c.in_ok-start.ensures.next (h (literals_rest c.args.depth ∷ es) b))))

pub returns-clause-settles : goal.returns-clause-settles
returns-clause-settles c = λ modal es b h. c.bars.invariant.settles modal es b (fails-unbarred modal c.args.depth es (sym c.is_bar.ensures ∙ c.bars-test.false) h)
