use Rattle.std.proofs.Common.{◌-◌, Some, refl, sym, arith}
use Rattle.std.proofs.lemmas.Option.{slice_get_read}
use Rattle.sequent_calc.proofs.Entries.{entry_of-found}
use Rattle.sequent_calc.proofs.addition.entry_of.Goals as goal

pub returns : goal.returns
returns c =
    let x = c.index-sequent-place.result in
    entry_of-found c.args.sequent.now c.args.number (Some x) c.if-number-eq0.false
    (sym (slice_get_read c.args.sequent.now _ (c.args.number - 1) x refl (omega (arith, c.if-place-sequent.false)) c.index-sequent-place.is))
