use Rattle.std.proofs.Common.{sym, ◌∙◌, refl, ◌≡◌, ◌∷◌, [], None}
use Rattle.tptp_reader.proofs.ItemReading.{include-bare, include-with}
use Rattle.tptp_reader.specs.Expecting.{this, an_opening, a_closing, a_square, a_quoted, include_rest, name, names_rest}
use Rattle.tptp_reader.specs.Failing.{OnStacks, Behind, FailsAt, dot_and_items}
use Rattle.tptp_reader.specs.ItemStanding.{file_in}
use Rattle.tptp_reader.specs.TerminalView.{the_terminal}
use Rattle.tptp_reader.proofs.FailLaws.{fails-next, fails-this, item-stops}
use Rattle.tptp_reader.proofs.ItemFails.{fails-no_file, fails-include, fails-selecting, fails-unselected}
use Rattle.tptp_reader.proofs.item_reader.read_include.Goals as goal

pub returns-then-not-has_form-clause-read : goal.returns-then-not-has_form-clause-read
returns-then-not-has_form-clause-read c =
    include-bare {p = c.args.p} c.in_ok-bracket.bracket c.in_ok-file_at.file_at _ c.requires.word c.in_ok-bracket.ensures.next c.in_ok-file_at.ensures.formed c.in_ok-file_at.ensures.next c.in_ok-file.ensures.file c.in_ok-sign.ensures.next c.in_ok-dot.ensures.read refl

pub returns-clause-read : goal.returns-clause-read
returns-clause-read c =
    include-with {p = c.args.p} c.in_ok-bracket.bracket c.in_ok-file_at.file_at c.in_ok-sign.sign _ c.requires.word c.in_ok-bracket.ensures.next c.in_ok-file_at.ensures.formed c.in_ok-file_at.ensures.next c.in_ok-file-2.ensures.file c.in_ok-sign.ensures.next (sym c.has_form.ensures ∙ c.if-not-has_form.false) c.in_ok-square.ensures.next c.in_ok-names.ensures.read refl

pub returns-in_err-bracket-clause-settles : goal.returns-in_err-bracket-clause-settles
returns-in_err-bracket-clause-settles c = λ modal.
    item-stops modal c.args.text.now c.args.p (OnStacks (Behind modal c.args.text.now c.args.p.end)) c.from_residual.result c.in_err-bracket.field-0.0 c.from_residual.ensures.1 (c.in_err-bracket.ensures.settles modal)
    (λ h. fails-include modal c.requires.word (h (this an_opening 0 ∷ this a_quoted 0 ∷ include_rest ∷ dot_and_items) refl))

pub returns-in_err-file_at-clause-settles : goal.returns-in_err-file_at-clause-settles
returns-in_err-file_at-clause-settles c = λ modal.
    item-stops modal c.args.text.now c.args.p (OnStacks (λ es. FailsAt modal c.args.text.now (this an_opening 0 ∷ es) c.in_ok-bracket.bracket)) c.from_residual-in_err-file_at.result c.in_err-file_at.field-0.0 c.from_residual-in_err-file_at.ensures.1 (c.in_err-file_at.ensures.settles modal)
    (λ h. fails-include modal c.requires.word (fails-next modal (this an_opening 0 ∷ this a_quoted 0 ∷ include_rest ∷ dot_and_items) refl c.in_ok-bracket.ensures.next (h (this a_quoted 0 ∷ include_rest ∷ dot_and_items) refl)))

pub returns-in_err-sign-clause-settles : goal.returns-in_err-sign-clause-settles
returns-in_err-sign-clause-settles c = λ modal.
    item-stops modal c.args.text.now c.args.p (OnStacks (Behind modal c.args.text.now c.in_ok-file_at.file_at.end)) c.from_residual-in_err-sign.result c.in_err-sign.field-0.0 c.from_residual-in_err-sign.ensures.1 (c.in_err-sign.ensures.settles modal)
    (λ h. fails-include modal c.requires.word (fails-next modal (this an_opening 0 ∷ this a_quoted 0 ∷ include_rest ∷ dot_and_items) refl c.in_ok-bracket.ensures.next (c.in_ok-file_at.ensures.settles modal (this a_quoted 0 ∷ include_rest ∷ dot_and_items) refl (fails-this modal a_quoted 0 (include_rest ∷ dot_and_items) (h (include_rest ∷ dot_and_items) refl)))))

pub returns-in_err-dot-clause-settles : goal.returns-in_err-dot-clause-settles
returns-in_err-dot-clause-settles c = λ modal.
    item-stops modal c.args.text.now c.args.p (FailsAt modal c.args.text.now (this a_closing 0 ∷ dot_and_items) c.in_ok-sign.sign) c.from_residual-in_err-dot.result c.in_err-dot.field-0.0 c.from_residual-in_err-dot.ensures.1 (c.in_err-dot.ensures.settles modal)
    (λ h. fails-include modal c.requires.word (fails-next modal (this an_opening 0 ∷ this a_quoted 0 ∷ include_rest ∷ dot_and_items) refl c.in_ok-bracket.ensures.next (c.in_ok-file_at.ensures.settles modal (this a_quoted 0 ∷ include_rest ∷ dot_and_items) refl (fails-this modal a_quoted 0 (include_rest ∷ dot_and_items) (fails-next modal (include_rest ∷ dot_and_items) refl c.in_ok-sign.ensures.next (fails-unselected modal dot_and_items (sym c.has_form.ensures ∙ c.if-not-has_form.true) (h)))))))

pub returns-in_err-file-clause-settles : goal.returns-in_err-file-clause-settles
returns-in_err-file-clause-settles c = λ modal.
    item-stops modal c.args.text.now c.args.p (file_in (the_terminal c.in_ok-file_at.file_at.terminal) ≡ None) c.from_residual-in_err-file.result c.in_err-file.field-0.0 c.from_residual-in_err-file.ensures.1 (c.in_err-file.ensures.none)
    (λ h. fails-include modal c.requires.word (fails-next modal (this an_opening 0 ∷ this a_quoted 0 ∷ include_rest ∷ dot_and_items) refl c.in_ok-bracket.ensures.next (c.in_ok-file_at.ensures.settles modal (this a_quoted 0 ∷ include_rest ∷ dot_and_items) refl (fails-no_file modal (include_rest ∷ dot_and_items) h))))

pub returns-in_err-file-2-clause-settles : goal.returns-in_err-file-2-clause-settles
returns-in_err-file-2-clause-settles c = λ modal.
    item-stops modal c.args.text.now c.args.p (file_in (the_terminal c.in_ok-file_at.file_at.terminal) ≡ None) c.from_residual-in_err-file-2.result c.in_err-file-2.field-0.0 c.from_residual-in_err-file-2.ensures.1 (c.in_err-file-2.ensures.none)
    (λ h. fails-include modal c.requires.word (fails-next modal (this an_opening 0 ∷ this a_quoted 0 ∷ include_rest ∷ dot_and_items) refl c.in_ok-bracket.ensures.next (c.in_ok-file_at.ensures.settles modal (this a_quoted 0 ∷ include_rest ∷ dot_and_items) refl (fails-no_file modal (include_rest ∷ dot_and_items) h))))

pub returns-then-not-has_form-clause-settles : goal.returns-then-not-has_form-clause-settles
returns-then-not-has_form-clause-settles c = λ modal h. fails-include modal c.requires.word (fails-next modal (this an_opening 0 ∷ this a_quoted 0 ∷ include_rest ∷ dot_and_items) refl c.in_ok-bracket.ensures.next (c.in_ok-file_at.ensures.settles modal (this a_quoted 0 ∷ include_rest ∷ dot_and_items) refl (fails-this modal a_quoted 0 (include_rest ∷ dot_and_items) (fails-next modal (include_rest ∷ dot_and_items) refl c.in_ok-sign.ensures.next (fails-unselected modal dot_and_items (sym c.has_form.ensures ∙ c.if-not-has_form.true) (c.in_ok-dot.ensures.settles modal h))))))

pub returns-in_err-square-clause-settles : goal.returns-in_err-square-clause-settles
returns-in_err-square-clause-settles c = λ modal.
    item-stops modal c.args.text.now c.args.p (OnStacks (Behind modal c.args.text.now c.in_ok-sign.sign.end)) c.from_residual-in_err-square.result c.in_err-square.field-0.0 c.from_residual-in_err-square.ensures.1 (c.in_err-square.ensures.settles modal)
    (λ h. fails-include modal c.requires.word (fails-next modal (this an_opening 0 ∷ this a_quoted 0 ∷ include_rest ∷ dot_and_items) refl c.in_ok-bracket.ensures.next (c.in_ok-file_at.ensures.settles modal (this a_quoted 0 ∷ include_rest ∷ dot_and_items) refl (fails-this modal a_quoted 0 (include_rest ∷ dot_and_items) (fails-next modal (include_rest ∷ dot_and_items) refl c.in_ok-sign.ensures.next (fails-selecting modal dot_and_items (sym c.has_form.ensures ∙ c.if-not-has_form.false) (h (this a_square 0 ∷ name ∷ names_rest ∷ dot_and_items) refl)))))))

pub returns-in_err-names-clause-settles : goal.returns-in_err-names-clause-settles
returns-in_err-names-clause-settles c = λ modal.
    item-stops modal c.args.text.now c.args.p (FailsAt modal c.args.text.now (this a_square 0 ∷ name ∷ names_rest ∷ dot_and_items) c.in_ok-square.square) c.from_residual-in_err-names.result c.in_err-names.field-0.0 c.from_residual-in_err-names.ensures.1 (c.in_err-names.ensures.settles modal)
    (λ h. fails-include modal c.requires.word (fails-next modal (this an_opening 0 ∷ this a_quoted 0 ∷ include_rest ∷ dot_and_items) refl c.in_ok-bracket.ensures.next (c.in_ok-file_at.ensures.settles modal (this a_quoted 0 ∷ include_rest ∷ dot_and_items) refl (fails-this modal a_quoted 0 (include_rest ∷ dot_and_items) (fails-next modal (include_rest ∷ dot_and_items) refl c.in_ok-sign.ensures.next (fails-selecting modal dot_and_items (sym c.has_form.ensures ∙ c.if-not-has_form.false) (fails-next modal (this a_square 0 ∷ name ∷ names_rest ∷ dot_and_items) refl c.in_ok-square.ensures.next (h))))))))

pub returns-clause-settles : goal.returns-clause-settles
returns-clause-settles c = λ modal h. fails-include modal c.requires.word (fails-next modal (this an_opening 0 ∷ this a_quoted 0 ∷ include_rest ∷ dot_and_items) refl c.in_ok-bracket.ensures.next (c.in_ok-file_at.ensures.settles modal (this a_quoted 0 ∷ include_rest ∷ dot_and_items) refl (fails-this modal a_quoted 0 (include_rest ∷ dot_and_items) (fails-next modal (include_rest ∷ dot_and_items) refl c.in_ok-sign.ensures.next (fails-selecting modal dot_and_items (sym c.has_form.ensures ∙ c.if-not-has_form.false) (fails-next modal (this a_square 0 ∷ name ∷ names_rest ∷ dot_and_items) refl c.in_ok-square.ensures.next (c.in_ok-names.ensures.settles modal h)))))))
