use Rattle.std.proofs.Common.{◌≡◌, ◌<◌, List, ℕ, subst, sym, arith, ◌∷◌, [], refl}
use Rattle.std.proofs.lemmas.Result.{IfOk-weaker}
use Rattle.tptp_reader.specs.TerminalView.{the_terminal}
use Rattle.tptp_reader.specs.ItemStanding.{NamesRead, SelectedEnd, SelectedRead}
use Rattle.tptp_reader.proofs.SpanLaws.{square-is}
use Rattle.tptp_reader.specs.Expecting.{this, a_square, name, names_rest}
use Rattle.tptp_reader.specs.Failing.{OnStacks, FailsAt, dot_and_items}
use Rattle.tptp_reader.proofs.FailLaws.{ends-with, passes-end-with}
use Rattle.tptp_reader.proofs.item_reader.read_selected.Goals as goal

pub returns-clause-read : goal.returns-clause-read
returns-clause-read c =
    IfOk-weaker c.selected.result (λ r. (r.0 ≡ c.in_ok-names.names) × SelectedEnd c.args.text.now c.in_ok-names.square r.1) (SelectedRead c.args.text.now c.args.p)
    (λ r h. record {
      first = c.in_ok-first.first;
      square = c.in_ok-names.square;
      opens = square-is (the_terminal c.args.p.terminal) c.in_ok-first.ensures.formed;
      to_first = c.in_ok-first.ensures.next;
      names = subst (λ (z : List (List ℕ × ℕ)). NamesRead c.args.text.now c.in_ok-first.first (z, c.in_ok-names.square)) (sym h.0) c.in_ok-names.ensures.read;
      rest = h.1;
    })
    c.selected.ensures.read

pub returns-clause-onward : goal.returns-clause-onward
returns-clause-onward c =
    IfOk-weaker c.selected.result (λ r. c.in_ok-names.square.end < r.1.end) (λ r. c.args.p.end < r.1.end) (λ r h. omega (arith, h, c.in_ok-first.ensures.onward, c.in_ok-names.ensures.onward)) c.selected.ensures.onward

pub returns-in_err-first-clause-settles : goal.returns-in_err-first-clause-settles
returns-in_err-first-clause-settles c = λ modal.
    ends-with modal c.args.text.now (this a_square 0 ∷ name ∷ names_rest ∷ []) c.args.p (OnStacks (λ es. FailsAt modal c.args.text.now (this a_square 0 ∷ es) c.args.p)) c.from_residual.result c.in_err-first.field-0.0 c.from_residual.ensures.1 (c.in_err-first.ensures.settles modal)
    (λ h. h (name ∷ names_rest ∷ dot_and_items) refl)

pub returns-in_err-names-clause-settles : goal.returns-in_err-names-clause-settles
returns-in_err-names-clause-settles c = λ modal.
    ends-with modal c.args.text.now (this a_square 0 ∷ name ∷ names_rest ∷ []) c.args.p (OnStacks (λ es. FailsAt modal c.args.text.now (name ∷ names_rest ∷ es) c.in_ok-first.first)) c.from_residual-in_err-names.result c.in_err-names.field-0.0 c.from_residual-in_err-names.ensures.1 (c.in_err-names.ensures.settles modal)
    (λ h. c.in_ok-first.ensures.settles modal (name ∷ names_rest ∷ dot_and_items) refl (h dot_and_items refl))

pub returns-clause-settles : goal.returns-clause-settles
returns-clause-settles c = λ modal.
    passes-end-with modal c.args.text.now (names_rest ∷ []) c.in_ok-names.square (this a_square 0 ∷ name ∷ names_rest ∷ []) c.args.p c.selected.result
    (λ h. c.in_ok-first.ensures.settles modal (name ∷ names_rest ∷ dot_and_items) refl (c.in_ok-names.ensures.settles modal dot_and_items refl h)) (c.selected.ensures.settles c.in_ok-names.ensures.ended modal)
