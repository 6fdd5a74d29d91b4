use Rattle.std.proofs.Common.{◌+◌, ◌∙◌, refl}
use Rattle.calculus.specs.Syntax.{spare}
use Rattle.derivation_check.proofs.ArgumentLaws.{number-read}
use Rattle.derivation_check.proofs.NamesLaws.{named-put, no-named}
use Rattle.derivation_check.proofs.term_names.all_names.Goals as goal

pub loop-i-init : goal.loop-i-init
loop-i-init c = no-named c.args.homes.now c.args.terms.now c.new-told.result.items c.new-told.ensures.items

pub loop-i-preserved : goal.loop-i-preserved
loop-i-preserved c =
    let i = c.loop-i.i in
    named-put c.args.homes.now i c.args.terms.now c.loop-i.told.items c.push.new.self.items c.row.result.now c.in_ok-names.names c.loop-i.invariant (c.row.ensures ∙ number-read c.args.terms.now (i + 1) i (spare 0) refl) c.in_ok-names.ensures c.in_ok-push.ensures.items
