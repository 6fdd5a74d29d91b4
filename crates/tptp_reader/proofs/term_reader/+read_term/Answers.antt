use Rattle.std.proofs.Common.{◌≡◌, ◌∷◌, [], Bool, false, refl, suc, sym, ◌∙◌, ap, arith, subst, List, None}
use Rattle.tptp_reader.specs.Sources as tree
use Rattle.tptp_reader.specs.TerminalView.{the_terminal}
use Rattle.tptp_reader.specs.Expecting.{term, arguments, some_arguments}
use Rattle.tptp_reader.specs.Failing.{Behind, FailsAt, OnStacks}
use Rattle.tptp_reader.specs.Following.{is_shallow}
use Rattle.tptp_reader.specs.Standing.{TermRead, ArgumentsRead, ArgumentsUpTo, word_in}
use Rattle.tptp_reader.proofs.FailLaws.{busy-open, fails-next, stops-at}
use Rattle.tptp_reader.proofs.TermFails.{arguments-absent, arguments-deep, arguments-within, arguments-closed, arguments-further, arguments-stuck, arguments-any, argument-led, term-any, term-deep, term-upper, term-word, term-none, not-upper}
use Rattle.tptp_reader.proofs.TermReading.{term-variable, term-applied, arguments-none, arguments-begun, arguments-on, arguments-done}
use Rattle.tptp_reader.proofs.term_reader.+read_term.Goals as goal

pub read_term-returns-in-Upper-clause-read : goal.read_term-returns-in-Upper-clause-read
read_term-returns-in-Upper-clause-read m c = term-variable c.args.depth c.in_ok-name.name c.in-Upper.name.now c.in_ok-name.ensures (ap the_terminal c.in-Upper.is) c.in_ok-next.ensures.next c.in_ok-inside.ensures.shallow

pub read_term-returns-clause-read : goal.read_term-returns-clause-read
read_term-returns-clause-read m c = term-applied c.args.depth c.in_ok-name-2.name (c.in_ok-args.args, c.in_ok-args.after) c.in_ok-name-2.ensures.word c.in_ok-next.ensures.next c.in_ok-inside.ensures.shallow c.in_ok-args.ensures.read

pub read_arguments-returns-then-not-has_form-clause-read : goal.read_arguments-returns-then-not-has_form-clause-read
read_arguments-returns-then-not-has_form-clause-read m c = arguments-none c.args.depth c.new.result c.new.ensures

pub read_arguments-loop-terms-init : goal.read_arguments-loop-terms-init
read_arguments-loop-terms-init m c = record {
  read = arguments-begun c.args.depth c.new-terms.result c.new-terms.ensures (sym c.has_form.ensures ∙ c.if-not-has_form.false) c.in_ok-here.ensures.next c.in_ok-inner.ensures.shallow;
  settles = λ modal es b h.
      arguments-within modal c.args.depth es (sym c.has_form.ensures ∙ c.if-not-has_form.false) (fails-next modal (term (suc c.args.depth) ∷ arguments (suc c.args.depth) ∷ es) refl c.in_ok-here.ensures.next h);
  onward = c.in_ok-here.ensures.onward;
  within = c.in_ok-here.ensures.within;
}

pub read_arguments-returns-then-has_form-clause-read : goal.read_arguments-returns-then-has_form-clause-read
read_arguments-returns-then-has_form-clause-read m c =
    subst (λ (z : List tree.SourceTerm). ArgumentsRead c.args.text.now c.args.depth c.args.p (z, c.in_ok-here-2.here)) (sym c.in_ok-push.ensures.ok)
    (arguments-done c.args.depth c.loop-terms.terms c.in_ok-term.term c.loop-terms.invariant.read (subst (λ n. TermRead c.args.text.now n c.loop-terms.here (c.in_ok-term.term, c.in_ok-term.next)) c.in_ok-inner.ensures.inner c.in_ok-term.ensures.read) (sym c.has_form-in-loop-terms.ensures ∙ c.if-has_form.true) c.in_ok-here-2.ensures.next)

pub read_arguments-loop-terms-preserved : goal.read_arguments-loop-terms-preserved
read_arguments-loop-terms-preserved m c = record {
  read =
      subst (λ (z : List tree.SourceTerm). ArgumentsUpTo c.args.text.now c.args.depth c.args.p z c.in_ok-here-2.here) (sym c.in_ok-push.ensures.ok)
      (arguments-on c.args.depth c.loop-terms.terms c.in_ok-term.term c.loop-terms.invariant.read (subst (λ n. TermRead c.args.text.now n c.loop-terms.here (c.in_ok-term.term, c.in_ok-term.next)) c.in_ok-inner.ensures.inner c.in_ok-term.ensures.read) (sym c.has_form-in-loop-terms-2.ensures ∙ c.if-not-has_form-2.false) c.in_ok-here-2.ensures.next);
  settles = λ modal es b h.
      c.loop-terms.invariant.settles modal es b
      (argument-led modal c.args.depth c.in_ok-inner.inner es c.in_ok-inner.ensures.inner (c.in_ok-term.ensures.settles modal)
      (arguments-further modal (suc c.args.depth) es (sym c.has_form-in-loop-terms-2.ensures ∙ c.if-not-has_form-2.false) (fails-next modal (term (suc c.args.depth) ∷ arguments (suc c.args.depth) ∷ es) refl c.in_ok-here-2.ensures.next h)));
  onward = omega (arith, c.loop-terms.invariant.onward, c.in_ok-term.ensures.onward, c.in_ok-here-2.ensures.onward);
  within = c.in_ok-here-2.ensures.within;
}

-- where it stops, the way goes wrong

pub read_term-returns-in_err-inside-clause-settles : goal.read_term-returns-in_err-inside-clause-settles
read_term-returns-in_err-inside-clause-settles m c = λ modal.
    stops-at modal c.args.text.now (term c.args.depth ∷ []) c.args.p (is_shallow c.args.depth ≡ false) c.from_residual.result c.in_err-inside.field-0.0 c.from_residual.ensures.1 c.in_err-inside.ensures.deep
    (λ h es b. term-deep modal c.args.depth es h)

pub read_term-returns-in_err-next-clause-settles : goal.read_term-returns-in_err-next-clause-settles
read_term-returns-in_err-next-clause-settles m c = λ modal.
    stops-at modal c.args.text.now (term c.args.depth ∷ []) c.args.p (OnStacks (Behind modal c.args.text.now c.args.p.end)) c.from_residual-in_err-next.result c.in_err-next.field-0.0 c.from_residual-in_err-next.ensures.1 (c.in_err-next.ensures.settles modal)
    (λ h es b. term-any modal c.args.depth es (h es b) (h (some_arguments c.args.depth ∷ es) b))

pub read_term-returns-in-Upper-clause-settles : goal.read_term-returns-in-Upper-clause-settles
read_term-returns-in-Upper-clause-settles m c = λ modal es b h.
    term-upper modal c.args.depth es (ap the_terminal c.in-Upper.is) (fails-next modal es (busy-open es b) c.in_ok-next.ensures.next h)

pub read_term-returns-in_err-args-clause-settles : goal.read_term-returns-in_err-args-clause-settles
read_term-returns-in_err-args-clause-settles m c = λ modal.
    stops-at modal c.args.text.now (term c.args.depth ∷ []) c.args.p (OnStacks (λ es. FailsAt modal c.args.text.now (some_arguments c.args.depth ∷ es) c.in_ok-next.next)) c.from_residual-in_err-args.result c.in_err-args.field-0.0 c.from_residual-in_err-args.ensures.1 (c.in_err-args.ensures.settles modal)
    (λ h es b. term-word modal c.args.depth es (not-upper c.args.p.terminal c.in_default.not-Upper) (fails-next modal (some_arguments c.args.depth ∷ es) refl c.in_ok-next.ensures.next (h es b)))

pub read_term-returns-in_err-name-2-clause-settles : goal.read_term-returns-in_err-name-2-clause-settles
read_term-returns-in_err-name-2-clause-settles m c = λ modal.
    stops-at modal c.args.text.now (term c.args.depth ∷ []) c.args.p (word_in (the_terminal c.args.p.terminal) ≡ None) c.from_residual-in_err-name-2.result c.in_err-name-2.field-0.0 c.from_residual-in_err-name-2.ensures.1 c.in_err-name-2.ensures.none
    (λ h es b. term-none modal c.args.depth es (not-upper c.args.p.terminal c.in_default.not-Upper) h)

pub read_term-returns-clause-settles : goal.read_term-returns-clause-settles
read_term-returns-clause-settles m c = λ modal es b h.
    term-word modal c.args.depth es (not-upper c.args.p.terminal c.in_default.not-Upper) (fails-next modal (some_arguments c.args.depth ∷ es) refl c.in_ok-next.ensures.next (c.in_ok-args.ensures.settles modal es b h))

pub read_arguments-returns-then-not-has_form-clause-settles : goal.read_arguments-returns-then-not-has_form-clause-settles
read_arguments-returns-then-not-has_form-clause-settles m c = λ modal es b h. arguments-absent modal c.args.depth es (sym c.has_form.ensures ∙ c.if-not-has_form.true) h

pub read_arguments-returns-in_err-inner-clause-settles : goal.read_arguments-returns-in_err-inner-clause-settles
read_arguments-returns-in_err-inner-clause-settles m c = λ modal.
    stops-at modal c.args.text.now (some_arguments c.args.depth ∷ []) c.args.p (is_shallow c.args.depth ≡ false) c.from_residual.result c.in_err-inner.field-0.0 c.from_residual.ensures.1 c.in_err-inner.ensures.deep
    (λ h es b. arguments-deep modal c.args.depth es (sym c.has_form.ensures ∙ c.if-not-has_form.false) h)

pub read_arguments-returns-in_err-here-clause-settles : goal.read_arguments-returns-in_err-here-clause-settles
read_arguments-returns-in_err-here-clause-settles m c = λ modal.
    stops-at modal c.args.text.now (some_arguments c.args.depth ∷ []) c.args.p (OnStacks (Behind modal c.args.text.now c.args.p.end)) c.from_residual-in_err-here.result c.in_err-here.field-0.0 c.from_residual-in_err-here.ensures.1 (c.in_err-here.ensures.settles modal)
    (λ h es b. arguments-within modal c.args.depth es (sym c.has_form.ensures ∙ c.if-not-has_form.false) (h (term (suc c.args.depth) ∷ arguments (suc c.args.depth) ∷ es) refl))

pub read_arguments-returns-in_err-term-clause-settles : goal.read_arguments-returns-in_err-term-clause-settles
read_arguments-returns-in_err-term-clause-settles m c = λ modal.
    stops-at modal c.args.text.now (some_arguments c.args.depth ∷ []) c.args.p (OnStacks (λ es. FailsAt modal c.args.text.now (term c.in_ok-inner.inner ∷ es) c.loop-terms.here)) c.from_residual-in_err-term.result c.in_err-term.field-0.0 c.from_residual-in_err-term.ensures.1 (c.in_err-term.ensures.settles modal)
    (λ h es b. c.loop-terms.invariant.settles modal es b (subst (λ n. FailsAt modal c.args.text.now (term n ∷ arguments (suc c.args.depth) ∷ es) c.loop-terms.here) c.in_ok-inner.ensures.inner (h (arguments (suc c.args.depth) ∷ es) refl)))

pub read_arguments-returns-in_err-here-2-clause-settles : goal.read_arguments-returns-in_err-here-2-clause-settles
read_arguments-returns-in_err-here-2-clause-settles m c = λ modal.
    stops-at modal c.args.text.now (some_arguments c.args.depth ∷ []) c.args.p (OnStacks (Behind modal c.args.text.now c.in_ok-term.next.end)) c.from_residual-in_err-here-2.result c.in_err-here-2.field-0.0 c.from_residual-in_err-here-2.ensures.1 (c.in_err-here-2.ensures.settles modal)
    (λ h es b.
    c.loop-terms.invariant.settles modal es b
    (argument-led modal c.args.depth c.in_ok-inner.inner es c.in_ok-inner.ensures.inner (c.in_ok-term.ensures.settles modal)
    (arguments-any modal (suc c.args.depth) es (h es b) (h (term (suc c.args.depth) ∷ arguments (suc c.args.depth) ∷ es) refl))))

pub read_arguments-returns-then-has_form-clause-settles : goal.read_arguments-returns-then-has_form-clause-settles
read_arguments-returns-then-has_form-clause-settles m c = λ modal es b h.
    c.loop-terms.invariant.settles modal es b
    (argument-led modal c.args.depth c.in_ok-inner.inner es c.in_ok-inner.ensures.inner (c.in_ok-term.ensures.settles modal)
    (arguments-closed modal (suc c.args.depth) es (sym c.has_form-in-loop-terms.ensures ∙ c.if-has_form.true) (fails-next modal es (busy-open es b) c.in_ok-here-2.ensures.next h)))

pub read_arguments-returns-then-not-has_form-2-clause-settles : goal.read_arguments-returns-then-not-has_form-2-clause-settles
read_arguments-returns-then-not-has_form-2-clause-settles m c = λ modal es b.
    c.loop-terms.invariant.settles modal es b
    (argument-led modal c.args.depth c.in_ok-inner.inner es c.in_ok-inner.ensures.inner (c.in_ok-term.ensures.settles modal)
    (arguments-stuck modal (suc c.args.depth) es (sym c.has_form-in-loop-terms.ensures ∙ c.if-has_form.false) (sym c.has_form-in-loop-terms-2.ensures ∙ c.if-not-has_form-2.true)))
