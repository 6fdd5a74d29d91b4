use Rattle.std.proofs.Common.{refl}
use Rattle.finite_model.proofs.ShortLaws.{none-short}
use Rattle.finite_model.proofs.shortening.no_args.Goals as goal

pub returns : goal.returns
returns c = λ S d. none-short S d _ c.new.ensures refl
