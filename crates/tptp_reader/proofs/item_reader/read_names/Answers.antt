use Rattle.std.proofs.Common.{sym, ◌∙◌, arith, ◌≡◌, ◌∷◌, [], List, ℕ, None, refl}
use Rattle.tptp_reader.proofs.ItemReading.{names-begun, names-on}
use Rattle.tptp_reader.specs.Expecting.{name, names_rest}
use Rattle.tptp_reader.specs.Failing.{OnStacks, At, Behind}
use Rattle.tptp_reader.specs.declared.terminal.Piece.{Piece}
use Rattle.tptp_reader.specs.ItemStanding.{name_in}
use Rattle.tptp_reader.specs.TerminalView.{the_terminal}
use Rattle.tptp_reader.proofs.FailLaws.{fails-next, stops}
use Rattle.tptp_reader.proofs.ItemFails.{fails-name, fails-no_name, fails-more_names}
use Rattle.tptp_reader.proofs.item_reader.read_names.Goals as goal

pub names-init : goal.names-init
names-init c =
    let h = c.in_ok-push_name.ensures.pushed in
    record {
      read = names-begun _ h.0 h.1 c.in_ok-here.ensures.next c.new-names.ensures h.2;
      settles = λ modal es b h. fails-name modal (names_rest ∷ es) (fails-next modal (names_rest ∷ es) refl c.in_ok-here.ensures.next h);
      onward = c.in_ok-here.ensures.onward;
      within = c.in_ok-here.ensures.within;
    }

pub names-preserved : goal.names-preserved
names-preserved c =
    let h = c.in_ok-push_name-2.ensures.pushed in
    record {
      read = names-on c.in_ok-next.next _ h.0 c.names.invariant.read (sym c.has_form.ensures ∙ c.names-test.true) c.in_ok-next.ensures.next h.1 c.in_ok-here-2.ensures.next h.2;
      settles = λ modal es b h. c.names.invariant.settles modal es b (fails-more_names modal es (sym c.has_form.ensures ∙ c.names-test.true) (fails-next modal (name ∷ names_rest ∷ es) refl c.in_ok-next.ensures.next (fails-name modal (names_rest ∷ es) (fails-next modal (names_rest ∷ es) refl c.in_ok-here-2.ensures.next h))));
      onward = omega (arith, c.names.invariant.onward, c.in_ok-next.ensures.onward, c.in_ok-here-2.ensures.onward);
      within = c.in_ok-here-2.ensures.within;
    }

pub returns-clause-read : goal.returns-clause-read
returns-clause-read c = c.names.invariant.read

pub returns-in_err-push_name-clause-settles : goal.returns-in_err-push_name-clause-settles
returns-in_err-push_name-clause-settles c = λ modal.
    stops (At modal c.args.text.now c.args.p) (name ∷ names_rest ∷ []) (λ (r : List (List ℕ × ℕ) × Piece) es. At modal c.args.text.now r.1 (names_rest ∷ es)) (name_in (the_terminal c.args.p.terminal) ≡ None) c.from_residual.result c.in_err-push_name.field-0.0 c.from_residual.ensures.1 (c.in_err-push_name.ensures.none)
    (λ h es b. fails-no_name modal (names_rest ∷ es) h)

pub returns-in_err-here-clause-settles : goal.returns-in_err-here-clause-settles
returns-in_err-here-clause-settles c = λ modal.
    stops (At modal c.args.text.now c.args.p) (name ∷ names_rest ∷ []) (λ (r : List (List ℕ × ℕ) × Piece) es. At modal c.args.text.now r.1 (names_rest ∷ es)) (OnStacks (Behind modal c.args.text.now c.args.p.end)) c.from_residual-in_err-here.result c.in_err-here.field-0.0 c.from_residual-in_err-here.ensures.1 (c.in_err-here.ensures.settles modal)
    (λ h es b. fails-name modal (names_rest ∷ es) (h (names_rest ∷ es) refl))

pub returns-in_err-next-clause-settles : goal.returns-in_err-next-clause-settles
returns-in_err-next-clause-settles c = λ modal.
    stops (At modal c.args.text.now c.args.p) (name ∷ names_rest ∷ []) (λ (r : List (List ℕ × ℕ) × Piece) es. At modal c.args.text.now r.1 (names_rest ∷ es)) (OnStacks (Behind modal c.args.text.now c.names.here.end)) c.from_residual-in_err-next.result c.in_err-next.field-0.0 c.from_residual-in_err-next.ensures.1 (c.in_err-next.ensures.settles modal)
    (λ h es b. c.names.invariant.settles modal es b (fails-more_names modal es (sym c.has_form.ensures ∙ c.names-test.true) (h (name ∷ names_rest ∷ es) refl)))

pub returns-in_err-push_name-2-clause-settles : goal.returns-in_err-push_name-2-clause-settles
returns-in_err-push_name-2-clause-settles c = λ modal.
    stops (At modal c.args.text.now c.args.p) (name ∷ names_rest ∷ []) (λ (r : List (List ℕ × ℕ) × Piece) es. At modal c.args.text.now r.1 (names_rest ∷ es)) (name_in (the_terminal c.in_ok-next.next.terminal) ≡ None) c.from_residual-in_err-push_name-2.result c.in_err-push_name-2.field-0.0 c.from_residual-in_err-push_name-2.ensures.1 (c.in_err-push_name-2.ensures.none)
    (λ h es b. c.names.invariant.settles modal es b (fails-more_names modal es (sym c.has_form.ensures ∙ c.names-test.true) (fails-next modal (name ∷ names_rest ∷ es) refl c.in_ok-next.ensures.next (fails-no_name modal (names_rest ∷ es) h))))

pub returns-in_err-here-2-clause-settles : goal.returns-in_err-here-2-clause-settles
returns-in_err-here-2-clause-settles c = λ modal.
    stops (At modal c.args.text.now c.args.p) (name ∷ names_rest ∷ []) (λ (r : List (List ℕ × ℕ) × Piece) es. At modal c.args.text.now r.1 (names_rest ∷ es)) (OnStacks (Behind modal c.args.text.now c.in_ok-next.next.end)) c.from_residual-in_err-here-2.result c.in_err-here-2.field-0.0 c.from_residual-in_err-here-2.ensures.1 (c.in_err-here-2.ensures.settles modal)
    (λ h es b. c.names.invariant.settles modal es b (fails-more_names modal es (sym c.has_form.ensures ∙ c.names-test.true) (fails-next modal (name ∷ names_rest ∷ es) refl c.in_ok-next.ensures.next (fails-name modal (names_rest ∷ es) (h (names_rest ∷ es) refl)))))

pub returns-clause-settles : goal.returns-clause-settles
returns-clause-settles c = λ modal es b h. c.names.invariant.settles modal es b (h)

pub returns-clause-ended : goal.returns-clause-ended
returns-clause-ended c = sym c.has_form.ensures ∙ c.names-test.false
