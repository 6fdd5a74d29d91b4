use Rattle.std.proofs.Common.{refl}
use Rattle.derivation_check.proofs.ArgumentLaws.{stated-at}
use Rattle.derivation_check.proofs.label_places.place_at.Goals as goal

pub returns : goal.returns
returns c = λ labels table h. stated-at labels table c.args.places.now c.args.number _ h c.requires refl
