use Rattle.std.proofs.Common.{refl, ◌≡◌, ◌∷◌, [], None}
use Rattle.tptp_reader.specs.TerminalView.{the_terminal}
use Rattle.tptp_reader.proofs.SpanLaws.{opening-is, comma-is}
use Rattle.tptp_reader.specs.Expecting.{this, an_opening, a_comma, a_lower, name}
use Rattle.tptp_reader.specs.Failing.{OnStacks, At, Behind, FailsAt, head_parts}
use Rattle.tptp_reader.specs.declared.item_reader.Head.{Head}
use Rattle.tptp_reader.specs.ItemStanding.{name_in, role_in}
use Rattle.tptp_reader.proofs.FailLaws.{fails-next, fails-this, stops}
use Rattle.tptp_reader.proofs.ItemFails.{fails-name, fails-no_name, fails-no_role}
use Rattle.tptp_reader.proofs.item_reader.read_head.Goals as goal

pub returns-clause-read : goal.returns-clause-read
returns-clause-read c = record {
  bracket = c.in_ok-bracket.bracket;
  name_at = c.in_ok-name_at.name_at;
  comma_at = c.in_ok-comma.comma;
  role_at = c.in_ok-role_at.role_at;
  second = c.in_ok-second.second;
  to_bracket = c.in_ok-bracket.ensures.next;
  opens = opening-is (the_terminal c.in_ok-bracket.bracket.terminal) c.in_ok-name_at.ensures.formed;
  to_name = c.in_ok-name_at.ensures.next;
  named = c.in_ok-name.ensures.name;
  to_comma = c.in_ok-comma.ensures.next;
  parts = comma-is (the_terminal c.in_ok-comma.comma.terminal) c.in_ok-role_at.ensures.formed;
  to_role = c.in_ok-role_at.ensures.next;
  has_role = c.in_ok-role.ensures.role;
  to_second = c.in_ok-second.ensures.next;
  parts_again = comma-is (the_terminal c.in_ok-second.second.terminal) c.in_ok-body.ensures.formed;
  to_body = c.in_ok-body.ensures.next;
  placed_role = refl;
}

pub returns-in_err-bracket-clause-settles : goal.returns-in_err-bracket-clause-settles
returns-in_err-bracket-clause-settles c = λ modal.
    stops (Behind modal c.args.text.now c.args.p.end) head_parts (λ (h : Head). At modal c.args.text.now h.body) (OnStacks (Behind modal c.args.text.now c.args.p.end)) c.from_residual.result c.in_err-bracket.field-0.0 c.from_residual.ensures.1 (c.in_err-bracket.ensures.settles modal)
    (λ h es b. h (this an_opening 0 ∷ name ∷ this a_comma 0 ∷ this a_lower 0 ∷ this a_comma 0 ∷ es) refl)

pub returns-in_err-name_at-clause-settles : goal.returns-in_err-name_at-clause-settles
returns-in_err-name_at-clause-settles c = λ modal.
    stops (Behind modal c.args.text.now c.args.p.end) head_parts (λ (h : Head). At modal c.args.text.now h.body) (OnStacks (λ es. FailsAt modal c.args.text.now (this an_opening 0 ∷ es) c.in_ok-bracket.bracket)) c.from_residual-in_err-name_at.result c.in_err-name_at.field-0.0 c.from_residual-in_err-name_at.ensures.1 (c.in_err-name_at.ensures.settles modal)
    (λ h es b. fails-next modal (this an_opening 0 ∷ name ∷ this a_comma 0 ∷ this a_lower 0 ∷ this a_comma 0 ∷ es) refl c.in_ok-bracket.ensures.next (h (name ∷ this a_comma 0 ∷ this a_lower 0 ∷ this a_comma 0 ∷ es) refl))

pub returns-in_err-comma-clause-settles : goal.returns-in_err-comma-clause-settles
returns-in_err-comma-clause-settles c = λ modal.
    stops (Behind modal c.args.text.now c.args.p.end) head_parts (λ (h : Head). At modal c.args.text.now h.body) (OnStacks (Behind modal c.args.text.now c.in_ok-name_at.name_at.end)) c.from_residual-in_err-comma.result c.in_err-comma.field-0.0 c.from_residual-in_err-comma.ensures.1 (c.in_err-comma.ensures.settles modal)
    (λ h es b. fails-next modal (this an_opening 0 ∷ name ∷ this a_comma 0 ∷ this a_lower 0 ∷ this a_comma 0 ∷ es) refl c.in_ok-bracket.ensures.next (c.in_ok-name_at.ensures.settles modal (name ∷ this a_comma 0 ∷ this a_lower 0 ∷ this a_comma 0 ∷ es) refl (fails-name modal (this a_comma 0 ∷ this a_lower 0 ∷ this a_comma 0 ∷ es) (h (this a_comma 0 ∷ this a_lower 0 ∷ this a_comma 0 ∷ es) refl))))

pub returns-in_err-role_at-clause-settles : goal.returns-in_err-role_at-clause-settles
returns-in_err-role_at-clause-settles c = λ modal.
    stops (Behind modal c.args.text.now c.args.p.end) head_parts (λ (h : Head). At modal c.args.text.now h.body) (OnStacks (λ es. FailsAt modal c.args.text.now (this a_comma 0 ∷ es) c.in_ok-comma.comma)) c.from_residual-in_err-role_at.result c.in_err-role_at.field-0.0 c.from_residual-in_err-role_at.ensures.1 (c.in_err-role_at.ensures.settles modal)
    (λ h es b. fails-next modal (this an_opening 0 ∷ name ∷ this a_comma 0 ∷ this a_lower 0 ∷ this a_comma 0 ∷ es) refl c.in_ok-bracket.ensures.next (c.in_ok-name_at.ensures.settles modal (name ∷ this a_comma 0 ∷ this a_lower 0 ∷ this a_comma 0 ∷ es) refl (fails-name modal (this a_comma 0 ∷ this a_lower 0 ∷ this a_comma 0 ∷ es) (fails-next modal (this a_comma 0 ∷ this a_lower 0 ∷ this a_comma 0 ∷ es) refl c.in_ok-comma.ensures.next (h (this a_lower 0 ∷ this a_comma 0 ∷ es) refl)))))

pub returns-in_err-second-clause-settles : goal.returns-in_err-second-clause-settles
returns-in_err-second-clause-settles c = λ modal.
    stops (Behind modal c.args.text.now c.args.p.end) head_parts (λ (h : Head). At modal c.args.text.now h.body) (OnStacks (Behind modal c.args.text.now c.in_ok-role_at.role_at.end)) c.from_residual-in_err-second.result c.in_err-second.field-0.0 c.from_residual-in_err-second.ensures.1 (c.in_err-second.ensures.settles modal)
    (λ h es b. fails-next modal (this an_opening 0 ∷ name ∷ this a_comma 0 ∷ this a_lower 0 ∷ this a_comma 0 ∷ es) refl c.in_ok-bracket.ensures.next (c.in_ok-name_at.ensures.settles modal (name ∷ this a_comma 0 ∷ this a_lower 0 ∷ this a_comma 0 ∷ es) refl (fails-name modal (this a_comma 0 ∷ this a_lower 0 ∷ this a_comma 0 ∷ es) (fails-next modal (this a_comma 0 ∷ this a_lower 0 ∷ this a_comma 0 ∷ es) refl c.in_ok-comma.ensures.next (c.in_ok-role_at.ensures.settles modal (this a_lower 0 ∷ this a_comma 0 ∷ es) refl (fails-this modal a_lower 0 (this a_comma 0 ∷ es) (h (this a_comma 0 ∷ es) refl)))))))

pub returns-in_err-body-clause-settles : goal.returns-in_err-body-clause-settles
returns-in_err-body-clause-settles c = λ modal.
    stops (Behind modal c.args.text.now c.args.p.end) head_parts (λ (h : Head). At modal c.args.text.now h.body) (OnStacks (λ es. FailsAt modal c.args.text.now (this a_comma 0 ∷ es) c.in_ok-second.second)) c.from_residual-in_err-body.result c.in_err-body.field-0.0 c.from_residual-in_err-body.ensures.1 (c.in_err-body.ensures.settles modal)
    (λ h es b. fails-next modal (this an_opening 0 ∷ name ∷ this a_comma 0 ∷ this a_lower 0 ∷ this a_comma 0 ∷ es) refl c.in_ok-bracket.ensures.next (c.in_ok-name_at.ensures.settles modal (name ∷ this a_comma 0 ∷ this a_lower 0 ∷ this a_comma 0 ∷ es) refl (fails-name modal (this a_comma 0 ∷ this a_lower 0 ∷ this a_comma 0 ∷ es) (fails-next modal (this a_comma 0 ∷ this a_lower 0 ∷ this a_comma 0 ∷ es) refl c.in_ok-comma.ensures.next (c.in_ok-role_at.ensures.settles modal (this a_lower 0 ∷ this a_comma 0 ∷ es) refl (fails-this modal a_lower 0 (this a_comma 0 ∷ es) (fails-next modal (this a_comma 0 ∷ es) refl c.in_ok-second.ensures.next (h es b))))))))

pub returns-in_err-name-clause-settles : goal.returns-in_err-name-clause-settles
returns-in_err-name-clause-settles c = λ modal.
    stops (Behind modal c.args.text.now c.args.p.end) head_parts (λ (h : Head). At modal c.args.text.now h.body) (name_in (the_terminal c.in_ok-name_at.name_at.terminal) ≡ None) c.from_residual-in_err-name.result c.in_err-name.field-0.0 c.from_residual-in_err-name.ensures.1 (c.in_err-name.ensures.none)
    (λ h es b. fails-next modal (this an_opening 0 ∷ name ∷ this a_comma 0 ∷ this a_lower 0 ∷ this a_comma 0 ∷ es) refl c.in_ok-bracket.ensures.next (c.in_ok-name_at.ensures.settles modal (name ∷ this a_comma 0 ∷ this a_lower 0 ∷ this a_comma 0 ∷ es) refl (fails-no_name modal (this a_comma 0 ∷ this a_lower 0 ∷ this a_comma 0 ∷ es) h)))

pub returns-in_err-role-clause-settles : goal.returns-in_err-role-clause-settles
returns-in_err-role-clause-settles c = λ modal.
    stops (Behind modal c.args.text.now c.args.p.end) head_parts (λ (h : Head). At modal c.args.text.now h.body) (role_in (the_terminal c.in_ok-role_at.role_at.terminal) ≡ None) c.from_residual-in_err-role.result c.in_err-role.field-0.0 c.from_residual-in_err-role.ensures.1 (c.in_err-role.ensures.none)
    (λ h es b. fails-next modal (this an_opening 0 ∷ name ∷ this a_comma 0 ∷ this a_lower 0 ∷ this a_comma 0 ∷ es) refl c.in_ok-bracket.ensures.next (c.in_ok-name_at.ensures.settles modal (name ∷ this a_comma 0 ∷ this a_lower 0 ∷ this a_comma 0 ∷ es) refl (fails-name modal (this a_comma 0 ∷ this a_lower 0 ∷ this a_comma 0 ∷ es) (fails-next modal (this a_comma 0 ∷ this a_lower 0 ∷ this a_comma 0 ∷ es) refl c.in_ok-comma.ensures.next (c.in_ok-role_at.ensures.settles modal (this a_lower 0 ∷ this a_comma 0 ∷ es) refl (fails-no_role modal (this a_comma 0 ∷ es) h))))))

pub returns-clause-settles : goal.returns-clause-settles
returns-clause-settles c = λ modal es b h. fails-next modal (this an_opening 0 ∷ name ∷ this a_comma 0 ∷ this a_lower 0 ∷ this a_comma 0 ∷ es) refl c.in_ok-bracket.ensures.next (c.in_ok-name_at.ensures.settles modal (name ∷ this a_comma 0 ∷ this a_lower 0 ∷ this a_comma 0 ∷ es) refl (fails-name modal (this a_comma 0 ∷ this a_lower 0 ∷ this a_comma 0 ∷ es) (fails-next modal (this a_comma 0 ∷ this a_lower 0 ∷ this a_comma 0 ∷ es) refl c.in_ok-comma.ensures.next (c.in_ok-role_at.ensures.settles modal (this a_lower 0 ∷ this a_comma 0 ∷ es) refl (fails-this modal a_lower 0 (this a_comma 0 ∷ es) (fails-next modal (this a_comma 0 ∷ es) refl c.in_ok-second.ensures.next (c.in_ok-body.ensures.settles modal es b h)))))))
