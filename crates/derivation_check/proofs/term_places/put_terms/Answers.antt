use Rattle.std.proofs.Common.{◌+◌, ◌∙◌, arith, refl}
use Rattle.calculus.specs.Syntax.{spare}
use Rattle.derivation_check.proofs.ArgumentLaws.{number-read}
use Rattle.label_table.proofs.TableLaws.{longer-more, longer-self, longer-size}
use Rattle.derivation_check.proofs.PutLaws.{no-puts, puts-next}
use Rattle.derivation_check.proofs.term_places.put_terms.Goals as goal

pub loop-i-init : goal.loop-i-init
loop-i-init c = record { put = no-puts c.args.substitutions.now c.args.terms.now c.new-places.result.items c.new-places.ensures.items; some = c.requires.some; grown = longer-self c.args.substitutions.now }

pub loop-i-preserved : goal.loop-i-preserved
loop-i-preserved c =
    let i = c.loop-i.i in
    let table = c.loop-i.substitutions in
    let more = c.put_term.new.substitutions in
    let long = c.in_ok-place.ensures.grown in
    let terms = c.args.terms.now in
    let size = longer-size table more long in
    record {
      put = puts-next i c.in_ok-place.place table more terms c.row.result.now c.loop-i.places.items c.push.new.self.items long c.loop-i.invariant.put (c.row.ensures ∙ number-read terms (i + 1) i (spare 0) refl) c.in_ok-place.ensures.put c.in_ok-push.ensures.items;
      some = omega (arith, size, c.loop-i.invariant.some);
      grown = longer-more c.args.substitutions.now table more c.loop-i.invariant.grown long;
    }
