use Rattle.std.proofs.Common.{subst}
use Rattle.calculus.specs.declared.version.Version.TheVariants.{One}
use Rattle.leancop_top.proofs.Ends.{line-counted, line-ends, translating-counted}
use Rattle.leancop_top.specs.Commands.Transfer.{TransferEnds, not_translated, transferred}
use Rattle.leancop_top.specs.Derived.{IsDerivation}
use Rattle.leancop_top.specs.Translating.{IsTranslating}
use Rattle.calculus.specs.Versions.{stated}
use Rattle.leancop_top.proofs.commands.transfer.transfer_accepted.Goals as goal

pub transferred_text-requires-clause-translated : goal.transferred_text-requires-clause-translated
transferred_text-requires-clause-translated c = subst (IsTranslating c.args.problem.now) c.in-Translated.is c.in_ok-translated.ensures

pub returns-in_ok-output-in-Translated-clause-ends : goal.returns-in_ok-output-in-Translated-clause-ends
returns-in_ok-output-in-Translated-clause-ends c = λ told name h.
    let P = c.args.problem.now in
    let t = subst (IsTranslating P) c.in-Translated.is c.in_ok-translated.ensures in
    let bytes = c.in_ok-output-in-Translated.output.items in
    transferred bytes (record {
      given = stated c.args.derivation.now;
      accepted = h;
      translatable = t.translatable;
      written = subst (λ Q. IsDerivation One Q c.args.derivation.now.limit bytes) t.same c.in_ok-output-in-Translated.ensures;
    })

pub returns-in-Refused-clause-ends : goal.returns-in-Refused-clause-ends
returns-in-Refused-clause-ends c = λ told name h.
    let P = c.args.problem.now in
    let s = c.in-Refused.status in
    line-ends (TransferEnds told P name) s c.line_reply.result c.line_reply.ensures.same c.line_reply.ensures.line
    (not_translated s (record { given = stated c.args.derivation.now; accepted = h; refused = subst (IsTranslating P) c.in-Refused.is c.in_ok-translated.ensures }))

pub returns-in-Refused-clause-counted : goal.returns-in-Refused-clause-counted
returns-in-Refused-clause-counted c = λ m n f g after.
    let P = c.args.problem.now in
    let s = c.in-Refused.status in
    line-counted m n f g after s c.line_reply.result c.line_reply.ensures.same (translating-counted P m n f g after s (subst (IsTranslating P) c.in-Refused.is c.in_ok-translated.ensures))
