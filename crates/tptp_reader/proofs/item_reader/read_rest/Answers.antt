use Rattle.std.proofs.Common.{◌≡◌, ◌<◌, ◌∙◌, arith, ◌∷◌, [], refl}
use Rattle.std.proofs.lemmas.Result.{IfOk-weaker}
use Rattle.tptp_reader.specs.SourceView.{the_source}
use Rattle.tptp_reader.specs.ItemStanding.{EndRead, RestRead}
use Rattle.tptp_reader.specs.Expecting.{after_body}
use Rattle.tptp_reader.specs.Failing.{OnStacks, FailsAt, dot_and_items, body_part}
use Rattle.tptp_reader.proofs.FailLaws.{ends-with, passes-end-with}
use Rattle.tptp_reader.proofs.item_reader.read_rest.Goals as goal

pub returns-clause-read : goal.returns-clause-read
returns-clause-read c =
    IfOk-weaker c.ended.result (λ r. (the_source r.0 ≡ the_source c.in_ok-source.source) × EndRead c.args.text.now c.in_ok-source.after r.1) (RestRead c.args.modal c.args.kind c.args.text.now c.args.p)
    (λ r h. let d = c.in_ok-source.ensures.read in record {
      after = c.in_ok-source.after;
      body = record { body = d.body; value = h.0 ∙ d.value; stands = d.stands; fits = d.fits; shallow = d.shallow };
      rest = h.1;
    })
    c.ended.ensures.read

pub returns-clause-onward : goal.returns-clause-onward
returns-clause-onward c =
    IfOk-weaker c.ended.result (λ r. c.in_ok-source.after.end < r.1.end) (λ r. c.args.p.end < r.1.end)
    (λ r h. omega (arith, h, c.in_ok-source.ensures.onward))
    c.ended.ensures.onward

pub returns-in_err-source-clause-settles : goal.returns-in_err-source-clause-settles
returns-in_err-source-clause-settles c =
    ends-with c.args.modal c.args.text.now (body_part c.args.kind ∷ after_body ∷ []) c.args.p (OnStacks (λ es. FailsAt c.args.modal c.args.text.now (body_part c.args.kind ∷ es) c.args.p)) c.from_residual.result c.in_err-source.field-0.0 c.from_residual.ensures.1 (c.in_err-source.ensures.settles)
    (λ h. h (after_body ∷ dot_and_items) refl)

pub returns-clause-settles : goal.returns-clause-settles
returns-clause-settles c =
    passes-end-with c.args.modal c.args.text.now (after_body ∷ []) c.in_ok-source.after (body_part c.args.kind ∷ after_body ∷ []) c.args.p c.ended.result
    (λ h. c.in_ok-source.ensures.settles (after_body ∷ dot_and_items) refl h) (c.ended.ensures.settles c.args.modal)
