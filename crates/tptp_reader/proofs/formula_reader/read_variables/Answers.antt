use Rattle.std.proofs.Common.{sym, ◌∙◌, ap, ◌++◌, ◌∷◌, [], subst, arith, List, ℕ, ◌≡◌, refl, None}
use Rattle.tptp_reader.specs.Standing.{VariablesUpTo, variable_in}
use Rattle.tptp_reader.proofs.VariablesReading.{variables-begun, variables-on, variables-done}
use Rattle.tptp_reader.specs.Expecting.{this, a_square, an_upper, variables}
use Rattle.tptp_reader.specs.Failing.{OnStacks, Behind, Fails, FailsAt, quantifier_parts}
use Rattle.tptp_reader.specs.TerminalView.{the_terminal}
use Rattle.tptp_reader.proofs.FailLaws.{fails-next, fails-this, stops-behind}
use Rattle.tptp_reader.proofs.FormulaFails.{fails-listed, fails-no_variable}
use Rattle.tptp_reader.proofs.formula_reader.read_variables.Goals as goal

pub variables-init : goal.variables-init
variables-init c = record {
  read =
      let q = c.in_ok-push_variable.ensures.pushed in
      variables-begun c.push_variable.new.names q.0 (q.2 ∙ ap (λ z. z ++ q.0 ∷ []) c.new-names.ensures) c.in_ok-first.ensures.read q.1 c.in_ok-here.ensures.next;
  settles = λ modal d es b h. c.in_ok-first.ensures.settles modal d (this an_upper d ∷ variables d ∷ es) refl (fails-this modal an_upper d (variables d ∷ es) (fails-next modal (variables d ∷ es) refl c.in_ok-here.ensures.next h));
  onward = omega (arith, c.in_ok-first.ensures.onward, c.in_ok-here.ensures.onward);
  within = c.in_ok-here.ensures.within;
}

pub returns-then-not-has_form-clause-read : goal.returns-then-not-has_form-clause-read
returns-then-not-has_form-clause-read c = variables-done c.variables.names c.variables.invariant.read c.in_ok-after.ensures.read

pub variables-preserved : goal.variables-preserved
variables-preserved c = record {
  read =
      let q = c.in_ok-push_variable-2.ensures.pushed in
      subst (λ (z : List (List ℕ)). VariablesUpTo c.args.text.now c.args.p z c.in_ok-here-2.here) (sym q.2)
      (variables-on c.in_ok-next.next c.variables.names q.0 c.variables.invariant.read (sym c.has_form.ensures ∙ c.if-not-has_form.false) c.in_ok-next.ensures.next q.1 c.in_ok-here-2.ensures.next);
  settles = λ modal d es b h. c.variables.invariant.settles modal d es b (fails-listed modal d es (sym c.has_form.ensures ∙ c.if-not-has_form.false) (fails-next modal (this an_upper d ∷ variables d ∷ es) refl c.in_ok-next.ensures.next (fails-this modal an_upper d (variables d ∷ es) (fails-next modal (variables d ∷ es) refl c.in_ok-here-2.ensures.next h))));
  onward = omega (arith, c.variables.invariant.onward, c.in_ok-next.ensures.onward, c.in_ok-here-2.ensures.onward);
  within = c.in_ok-here-2.ensures.within;
}

pub returns-in_err-first-clause-settles : goal.returns-in_err-first-clause-settles
returns-in_err-first-clause-settles c = λ modal d.
    stops-behind modal c.args.text.now (quantifier_parts d) c.args.p.end (OnStacks (λ es. Fails modal c.args.text.now (this a_square d ∷ es) c.args.p.end)) c.from_residual.result c.in_err-first.field-0.0 c.from_residual.ensures.1 (c.in_err-first.ensures.settles modal d)
    (λ h es b. h (this an_upper d ∷ variables d ∷ es) refl)

pub returns-in_err-here-clause-settles : goal.returns-in_err-here-clause-settles
returns-in_err-here-clause-settles c = λ modal d.
    stops-behind modal c.args.text.now (quantifier_parts d) c.args.p.end (OnStacks (Behind modal c.args.text.now c.in_ok-first.first.end)) c.from_residual-in_err-here.result c.in_err-here.field-0.0 c.from_residual-in_err-here.ensures.1 (c.in_err-here.ensures.settles modal)
    (λ h es b. c.in_ok-first.ensures.settles modal d (this an_upper d ∷ variables d ∷ es) refl (fails-this modal an_upper d (variables d ∷ es) (h (variables d ∷ es) refl)))

pub returns-in_err-push_variable-clause-settles : goal.returns-in_err-push_variable-clause-settles
returns-in_err-push_variable-clause-settles c = λ modal d.
    stops-behind modal c.args.text.now (quantifier_parts d) c.args.p.end (variable_in (the_terminal c.in_ok-first.first.terminal) ≡ None) c.from_residual-in_err-push_variable.result c.in_err-push_variable.field-0.0 c.from_residual-in_err-push_variable.ensures.1 (c.in_err-push_variable.ensures.none)
    (λ h es b. c.in_ok-first.ensures.settles modal d (this an_upper d ∷ variables d ∷ es) refl (fails-no_variable modal d (variables d ∷ es) h))

pub returns-in_err-after-clause-settles : goal.returns-in_err-after-clause-settles
returns-in_err-after-clause-settles c = λ modal d.
    stops-behind modal c.args.text.now (quantifier_parts d) c.args.p.end (OnStacks (λ es. FailsAt modal c.args.text.now (variables d ∷ es) c.variables.here)) c.from_residual-in_err-after.result c.in_err-after.field-0.0 c.from_residual-in_err-after.ensures.1 (c.in_err-after.ensures.settles (sym c.has_form.ensures ∙ c.if-not-has_form.true) modal d)
    (λ h es b. c.variables.invariant.settles modal d es b (h es b))

pub returns-then-not-has_form-clause-settles : goal.returns-then-not-has_form-clause-settles
returns-then-not-has_form-clause-settles c = λ modal d es b h. c.variables.invariant.settles modal d es b (c.in_ok-after.ensures.settles (sym c.has_form.ensures ∙ c.if-not-has_form.true) modal d es b h)

pub returns-in_err-next-clause-settles : goal.returns-in_err-next-clause-settles
returns-in_err-next-clause-settles c = λ modal d.
    stops-behind modal c.args.text.now (quantifier_parts d) c.args.p.end (OnStacks (Behind modal c.args.text.now c.variables.here.end)) c.from_residual-in_err-next.result c.in_err-next.field-0.0 c.from_residual-in_err-next.ensures.1 (c.in_err-next.ensures.settles modal)
    (λ h es b. c.variables.invariant.settles modal d es b (fails-listed modal d es (sym c.has_form.ensures ∙ c.if-not-has_form.false) (h (this an_upper d ∷ variables d ∷ es) refl)))

pub returns-in_err-push_variable-2-clause-settles : goal.returns-in_err-push_variable-2-clause-settles
returns-in_err-push_variable-2-clause-settles c = λ modal d.
    stops-behind modal c.args.text.now (quantifier_parts d) c.args.p.end (variable_in (the_terminal c.in_ok-next.next.terminal) ≡ None) c.from_residual-in_err-push_variable-2.result c.in_err-push_variable-2.field-0.0 c.from_residual-in_err-push_variable-2.ensures.1 (c.in_err-push_variable-2.ensures.none)
    (λ h es b. c.variables.invariant.settles modal d es b (fails-listed modal d es (sym c.has_form.ensures ∙ c.if-not-has_form.false) (fails-next modal (this an_upper d ∷ variables d ∷ es) refl c.in_ok-next.ensures.next (fails-no_variable modal d (variables d ∷ es) h))))

pub returns-in_err-here-2-clause-settles : goal.returns-in_err-here-2-clause-settles
returns-in_err-here-2-clause-settles c = λ modal d.
    stops-behind modal c.args.text.now (quantifier_parts d) c.args.p.end (OnStacks (Behind modal c.args.text.now c.in_ok-next.next.end)) c.from_residual-in_err-here-2.result c.in_err-here-2.field-0.0 c.from_residual-in_err-here-2.ensures.1 (c.in_err-here-2.ensures.settles modal)
    (λ h es b. c.variables.invariant.settles modal d es b (fails-listed modal d es (sym c.has_form.ensures ∙ c.if-not-has_form.false) (fails-next modal (this an_upper d ∷ variables d ∷ es) refl c.in_ok-next.ensures.next (fails-this modal an_upper d (variables d ∷ es) (h (variables d ∷ es) refl)))))
