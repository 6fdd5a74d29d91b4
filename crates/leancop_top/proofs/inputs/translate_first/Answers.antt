use Rattle.std.proofs.Common.{subst}
use Rattle.leancop_top.proofs.Ends.{translating-counted, translating-tells}
use Rattle.leancop_top.proofs.Leading.{over-translation, telling}
use Rattle.leancop_top.specs.Commands.Check.{TranslatedCheckEnds, not_translated}
use Rattle.leancop_top.specs.Translating.{IsTranslating}
use Rattle.leancop_top.proofs.inputs.translate_first.Goals as goal

pub returns-in-Translated-clause-leads : goal.returns-in-Translated-clause-leads
returns-in-Translated-clause-leads g c = λ told w.
    let P = c.args.problem in
    over-translation told P c.in-Translated.translated c.args.name.now c.read_second.result
    (subst (IsTranslating P) c.in-Translated.is c.in_ok-translated.ensures) (c.read_second.ensures.leads told w)

pub returns-clause-leads : goal.returns-clause-leads
returns-clause-leads g c = λ told w.
    let P = c.args.problem in
    let s = c.in-Refused.status in
    telling (TranslatedCheckEnds told P c.args.name.now) s (not_translated s (subst (IsTranslating P) c.in-Refused.is c.in_ok-translated.ensures))

pub returns-clause-counted : goal.returns-clause-counted
returns-clause-counted g c =
    let P = c.args.problem in
    translating-counted P _ _ _ _ _ c.in-Refused.status (subst (IsTranslating P) c.in-Refused.is c.in_ok-translated.ensures)

pub returns-clause-ready : goal.returns-clause-ready
returns-clause-ready g c =
    let P = c.args.problem in
    translating-tells P c.in-Refused.status (subst (IsTranslating P) c.in-Refused.is c.in_ok-translated.ensures)
