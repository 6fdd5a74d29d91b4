use Rattle.std.proofs.Common.{sym, ◌∙◌, ◌<◌, ◌≤◌, ap, Some, arith, ◌≡◌, ◌∷◌, [], refl, false}
use Rattle.std.proofs.lemmas.Result.{IfOk-weaker}
use Rattle.plain_laws.proofs.Options.{not-some}
use Rattle.tptp_reader.specs.Standing.{AtomRead, SideRead, truth_in}
use Rattle.tptp_reader.specs.TermView.{the_source_term}
use Rattle.tptp_reader.proofs.AtomReading.{atom-true, atom-false, atom-read}
use Rattle.tptp_reader.specs.Expecting.{term, equation, some_equation, atom}
use Rattle.tptp_reader.specs.Failing.{OnStacks, Behind, FailsAt, side_part}
use Rattle.tptp_reader.specs.Following.{is_shallow}
use Rattle.tptp_reader.specs.TerminalView.{the_terminal}
use Rattle.tptp_reader.proofs.FailLaws.{busy-open, fails-next, stops-at, passes-at}
use Rattle.tptp_reader.proofs.AtomFails.{side-busy, fails-truth, truth-deep, fails-atom, fails-sided}
use Rattle.tptp_reader.proofs.formula_reader.read_atom.Goals as goal

pub returns-then-holds-clause-read : goal.returns-then-holds-clause-read
returns-then-holds-clause-read c = atom-true c.args.depth (sym c.truth_of.ensures ∙ c.in-Some.is ∙ ap Some c.if-holds.true) c.in_ok-next.ensures.next c.in_ok-inside.ensures.shallow

pub returns-in-Some-clause-read : goal.returns-in-Some-clause-read
returns-in-Some-clause-read c = atom-false c.args.depth (sym c.truth_of.ensures ∙ c.in-Some.is ∙ ap Some c.if-holds.false) c.in_ok-next.ensures.next c.in_ok-inside.ensures.shallow

pub returns-clause-read : goal.returns-clause-read
returns-clause-read c =
    IfOk-weaker c.read_side.result (SideRead c.args.text.now c.args.depth (the_source_term c.in_ok-left.left) c.in_ok-left.sign) (AtomRead c.args.text.now c.args.depth c.args.p)
    (λ r h. atom-read c.args.depth c.in_ok-left.left r.0 c.in_ok-left.ensures.read h)
    c.read_side.ensures.read

pub returns-clause-onward : goal.returns-clause-onward
returns-clause-onward c =
    IfOk-weaker c.read_side.result (λ r. c.in_ok-left.sign.end ≤ r.1.end) (λ r. c.args.p.end < r.1.end)
    (λ r h. omega (arith, h, c.in_ok-left.ensures.onward))
    c.read_side.ensures.onward

pub returns-in_err-inside-clause-settles : goal.returns-in_err-inside-clause-settles
returns-in_err-inside-clause-settles c = λ modal.
    stops-at modal c.args.text.now (atom c.args.depth ∷ []) c.args.p (is_shallow c.args.depth ≡ false) c.from_residual.result c.in_err-inside.field-0.0 c.from_residual.ensures.1 (c.in_err-inside.ensures.deep)
    (λ h es b. truth-deep modal c.args.depth c.in-Some.holds es (sym c.truth_of.ensures ∙ c.in-Some.is) h)

pub returns-in_err-next-clause-settles : goal.returns-in_err-next-clause-settles
returns-in_err-next-clause-settles c = λ modal.
    stops-at modal c.args.text.now (atom c.args.depth ∷ []) c.args.p (OnStacks (Behind modal c.args.text.now c.args.p.end)) c.from_residual-in_err-next.result c.in_err-next.field-0.0 c.from_residual-in_err-next.ensures.1 (c.in_err-next.ensures.settles modal)
    (λ h es b. fails-truth modal c.args.depth c.in-Some.holds es (sym c.truth_of.ensures ∙ c.in-Some.is) (h es b))

pub returns-then-holds-clause-settles : goal.returns-then-holds-clause-settles
returns-then-holds-clause-settles c = λ modal es b h. fails-truth modal c.args.depth c.in-Some.holds es (sym c.truth_of.ensures ∙ c.in-Some.is) (fails-next modal es (busy-open es b) c.in_ok-next.ensures.next h)

pub returns-in-Some-clause-settles : goal.returns-in-Some-clause-settles
returns-in-Some-clause-settles c = λ modal es b h. fails-truth modal c.args.depth c.in-Some.holds es (sym c.truth_of.ensures ∙ c.in-Some.is) (fails-next modal es (busy-open es b) c.in_ok-next.ensures.next h)

pub returns-in_err-left-clause-settles : goal.returns-in_err-left-clause-settles
returns-in_err-left-clause-settles c = λ modal.
    stops-at modal c.args.text.now (atom c.args.depth ∷ []) c.args.p (OnStacks (λ es. FailsAt modal c.args.text.now (term c.args.depth ∷ es) c.args.p)) c.from_residual-in_err-left.result c.in_err-left.field-0.0 c.from_residual-in_err-left.ensures.1 (c.in_err-left.ensures.settles modal)
    (λ h es b. fails-atom modal c.args.depth es (not-some (truth_in (the_terminal c.args.p.terminal)) (λ v e. c.in_default.not-Some v (c.truth_of.ensures ∙ e))) (h (equation c.args.depth ∷ es) refl) (h (some_equation c.args.depth ∷ es) b))

pub returns-clause-settles : goal.returns-clause-settles
returns-clause-settles c = λ modal.
    passes-at modal c.args.text.now (side_part (the_source_term c.in_ok-left.left) c.args.depth ∷ []) c.in_ok-left.sign (atom c.args.depth ∷ []) c.args.p c.read_side.result
    (λ es b h. fails-sided modal c.args.depth c.in_ok-left.left es c.in_ok-left.ensures.read (c.in_ok-left.ensures.settles modal (side_part (the_source_term c.in_ok-left.left) c.args.depth ∷ es) (side-busy (the_source_term c.in_ok-left.left) c.args.depth es b) h))
    (c.read_side.ensures.settles modal)
