use Rattle.std.proofs.Common.{◌==◌, ◌∙◌, Bool, List, ap, arith, length, subst, sym, ◌≡◌, ◌&&◌, ◌∷◌, [], None, refl}
use Rattle.std.specs.Prelude.{reverse}
use Rattle.std.proofs.lemmas.Result.{IfOk-weaker}
use Rattle.tptp_reader.specs.ItemStanding.{DotRead, NotesUpTo, NotesRead, note_after}
use Rattle.tptp_reader.proofs.NotesReading.{notes-begun, notes-on, notes-done, none-waiting}
use Rattle.std.proofs.lemmas.Bool.{and_parts}
use Rattle.plain_laws.proofs.Options.{none_some}
use Rattle.tptp_lex.proofs.Runs.{some-is}
use Rattle.tptp_reader.specs.Expecting.{form, this, a_closing, notes}
use Rattle.tptp_reader.specs.Failing.{OnStacks, Behind, Fails, FailsAt, dot_and_items}
use Rattle.tptp_reader.specs.TerminalView.{the_terminal}
use Rattle.tptp_reader.proofs.FailLaws.{fails-next, ends-at, passes-end-at}
use Rattle.tptp_reader.proofs.ItemFails.{fails-note, fails-notes_end, not-ended}
use Rattle.tptp_reader.proofs.item_reader.skip_notes.Goals as goal

pub notes-init : goal.notes-init
notes-init c = record {
  read = subst (λ (z : List Bool). NotesUpTo c.args.text.now c.args.p (reverse z) c.args.p) (sym c.new-waiting.ensures.items) (notes-begun c.args.p);
  settles = λ modal h. subst (λ (z : List Bool). FailsAt modal c.args.text.now (notes (reverse z) ∷ dot_and_items) c.args.p) c.new-waiting.ensures.items h;
  onward = omega arith;
  within = c.requires;
}

pub notes-preserved : goal.notes-preserved
notes-preserved c = record {
  read = notes-on c.notes.invariant.read c.in_ok-next.ensures.next c.in_ok-pass_note.ensures.passed;
  settles = λ modal h. c.notes.invariant.settles modal (fails-note modal (reverse c.notes.waiting.items) dot_and_items (not-ended c.notes.waiting.items (form (the_terminal c.notes.here.terminal) == 11) (ap (λ (z : List Bool). (length z == 0) && (form (the_terminal c.notes.here.terminal) == 11)) (sym c.as_slice.ensures.value) ∙ sym c.ends_notes.ensures ∙ c.if-ends_notes.false)) (λ v k. subst (λ (z : List Bool). Fails modal c.args.text.now (notes z ∷ dot_and_items) c.notes.here.end) (some-is (sym c.in_ok-pass_note.ensures.passed ∙ k)) (fails-next modal (notes (reverse c.pass_note.new.waiting.items) ∷ dot_and_items) refl c.in_ok-next.ensures.next h)));
  onward = omega (arith, c.notes.invariant.onward, c.in_ok-next.ensures.onward);
  within = c.in_ok-next.ensures.within;
}

pub returns-then-ends_notes-clause-read : goal.returns-then-ends_notes-clause-read
returns-then-ends_notes-clause-read c =
    let t = and_parts (length c.notes.waiting.items == 0) (form (the_terminal c.notes.here.terminal) == 11) (ap (λ (z : List Bool). (length z == 0) && (form (the_terminal c.notes.here.terminal) == 11)) (sym c.as_slice.ensures.value) ∙ sym c.ends_notes.ensures ∙ c.if-ends_notes.true) in
    IfOk-weaker c.read_dot.result (DotRead c.args.text.now c.notes.here) (NotesRead c.args.text.now c.args.p) (λ r h. notes-done c.notes.invariant.read (none-waiting c.notes.waiting.items t.0) h) c.read_dot.ensures.read

pub returns-then-ends_notes-clause-settles : goal.returns-then-ends_notes-clause-settles
returns-then-ends_notes-clause-settles c = λ modal.
    let t = and_parts (length c.notes.waiting.items == 0) (form (the_terminal c.notes.here.terminal) == 11) (ap (λ (z : List Bool). (length z == 0) && (form (the_terminal c.notes.here.terminal) == 11)) (sym c.as_slice.ensures.value) ∙ sym c.ends_notes.ensures ∙ c.if-ends_notes.true) in
    passes-end-at modal c.args.text.now (this a_closing 0 ∷ []) c.notes.here (notes [] ∷ []) c.args.p c.read_dot.result
    (λ h. c.notes.invariant.settles modal (fails-notes_end modal (reverse c.notes.waiting.items) dot_and_items (none-waiting c.notes.waiting.items t.0) t.1 h)) (c.read_dot.ensures.settles modal)

pub returns-in_err-next-clause-settles : goal.returns-in_err-next-clause-settles
returns-in_err-next-clause-settles c = λ modal.
    ends-at modal c.args.text.now (notes [] ∷ []) c.args.p (OnStacks (Behind modal c.args.text.now c.notes.here.end)) c.from_residual.result c.in_err-next.field-0.0 c.from_residual.ensures.1 (c.in_err-next.ensures.settles modal)
    (λ h. c.notes.invariant.settles modal (fails-note modal (reverse c.notes.waiting.items) dot_and_items (not-ended c.notes.waiting.items (form (the_terminal c.notes.here.terminal) == 11) (ap (λ (z : List Bool). (length z == 0) && (form (the_terminal c.notes.here.terminal) == 11)) (sym c.as_slice.ensures.value) ∙ sym c.ends_notes.ensures ∙ c.if-ends_notes.false)) (λ v k. h (notes v ∷ dot_and_items) refl)))

pub returns-in_err-pass_note-clause-settles : goal.returns-in_err-pass_note-clause-settles
returns-in_err-pass_note-clause-settles c = λ modal.
    ends-at modal c.args.text.now (notes [] ∷ []) c.args.p (note_after (reverse c.notes.waiting.items) (the_terminal c.notes.here.terminal) ≡ None) c.from_residual-in_err-pass_note.result c.in_err-pass_note.field-0.0 c.from_residual-in_err-pass_note.ensures.1 (c.in_err-pass_note.ensures.none)
    (λ h. c.notes.invariant.settles modal (fails-note modal (reverse c.notes.waiting.items) dot_and_items (not-ended c.notes.waiting.items (form (the_terminal c.notes.here.terminal) == 11) (ap (λ (z : List Bool). (length z == 0) && (form (the_terminal c.notes.here.terminal) == 11)) (sym c.as_slice.ensures.value) ∙ sym c.ends_notes.ensures ∙ c.if-ends_notes.false)) (λ v k. absurd (none_some (sym h ∙ k)))))
