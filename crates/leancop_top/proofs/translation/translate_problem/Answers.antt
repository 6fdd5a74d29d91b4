use Rattle.std.proofs.Common.{Err, Ok, ap, refl}
use Rattle.leancop_top.proofs.Translations.{fits}
use Rattle.leancop_top.specs.Translating.{too_deep, too_large}
use Rattle.leancop_top.proofs.translation.translate_problem.Goals as goal

pub returns-in-Ok : goal.returns-in-Ok
returns-in-Ok c = record {
  same = c.in-Ok.ensures.translated;
  translatable = fits c.args.problem.now c.in-Ok.translated (Ok c.in-Ok.translated) refl c.in-Ok.ensures.deep c.in-Ok.ensures.large;
}

pub returns-in-Err-NestingTooDeep : goal.returns-in-Err-NestingTooDeep
returns-in-Err-NestingTooDeep c = too_deep (c.in-Err-NestingTooDeep.ensures.deep.0 (ap Err c.in-Err-NestingTooDeep.field-0-is))

pub returns-in-Err-FormulaTooLarge : goal.returns-in-Err-FormulaTooLarge
returns-in-Err-FormulaTooLarge c =
    let h = c.in-Err-FormulaTooLarge.ensures.large.0 (ap Err c.in-Err-FormulaTooLarge.field-0-is) in
    too_large h.0 h.1
