use Rattle.std.proofs.Common.{sym, ◌∙◌, ◌∷◌, [], subst}
use Rattle.std.proofs.lemmas.Result.{IfOk-weaker}
use Rattle.tptp_reader.specs.Standing.{FormulaRead}
use Rattle.tptp_reader.specs.ClauseStanding.{ClauseRead}
use Rattle.tptp_reader.specs.ItemStanding.{BodyRead}
use Rattle.tptp_reader.proofs.ItemReading.{body-clause, body-formula}
use Rattle.tptp_reader.specs.Expecting.{clause, formula}
use Rattle.tptp_reader.specs.Failing.{FailsAt, body_part}
use Rattle.tptp_reader.proofs.FailLaws.{passes-at}
use Rattle.tptp_reader.proofs.ItemFails.{clause-part, formula-part}
use Rattle.tptp_reader.proofs.item_reader.read_body.Goals as goal

pub returns-then-is_clause-clause-read : goal.returns-then-is_clause-clause-read
returns-then-is_clause-clause-read c =
    IfOk-weaker c.read_clause.result (ClauseRead c.args.text.now c.args.p) (BodyRead c.args.modal c.args.kind c.args.text.now c.args.p)
    (λ r h. body-clause c.args.modal c.args.kind (sym c.is_clause.ensures ∙ c.if-is_clause.true) h)
    c.read_clause.ensures.read

pub returns-clause-read : goal.returns-clause-read
returns-clause-read c =
    IfOk-weaker c.read_tree.result (FormulaRead c.args.modal c.args.text.now 0 c.args.p) (BodyRead c.args.modal c.args.kind c.args.text.now c.args.p)
    (λ r h. body-formula c.args.modal c.args.kind (sym c.is_clause.ensures ∙ c.if-is_clause.false) h)
    c.read_tree.ensures.read

pub returns-then-is_clause-clause-settles : goal.returns-then-is_clause-clause-settles
returns-then-is_clause-clause-settles c =
    passes-at c.args.modal c.args.text.now (clause ∷ []) c.args.p (body_part c.args.kind ∷ []) c.args.p c.read_clause.result
    (λ es b h. subst (λ e. FailsAt c.args.modal c.args.text.now (e ∷ es) c.args.p) (clause-part c.args.kind (sym c.is_clause.ensures ∙ c.if-is_clause.true)) h) (c.read_clause.ensures.settles c.args.modal)

pub returns-clause-settles : goal.returns-clause-settles
returns-clause-settles c =
    passes-at c.args.modal c.args.text.now (formula 0 ∷ []) c.args.p (body_part c.args.kind ∷ []) c.args.p c.read_tree.result
    (λ es b h. subst (λ e. FailsAt c.args.modal c.args.text.now (e ∷ es) c.args.p) (formula-part c.args.kind (sym c.is_clause.ensures ∙ c.if-is_clause.false)) h) (c.read_tree.ensures.settles)
