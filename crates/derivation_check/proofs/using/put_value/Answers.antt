use Rattle.derivation_check.proofs.Keeping.{value-put}
use Rattle.derivation_branch.specs.TableView.{the_value}
use Rattle.derivation_check.proofs.using.put_value.Goals as goal

pub returns : goal.returns
returns c =
    let h = value-put c.args.substitutions.now c.put.new.self c.args.outer c.in_ok-place.place (the_value c.args.value) c.requires.within c.in_ok-place.ensures.place c.in_ok-place.ensures.put c.in_ok-place.ensures.others in
    record { within = h.within; put = h.put; grown = h.grown }
