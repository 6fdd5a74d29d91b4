use Rattle.std.proofs.Common.{[]}
use Rattle.calculus.specs.Versions.{numbered, same_label}
use Rattle.derivation_text.proofs.NumberingLaws.{same_label-tells}
use Rattle.derivation_text.proofs.RenumberingLaws.{new-among}
use Rattle.derivation_text.proofs.renumbering.new_home.Goals as goal

pub returns-in_ok-number-in-Some-clause-among : goal.returns-in_ok-number-in-Some-clause-among
returns-in_ok-number-in-Some-clause-among c = new-among same_label same_label-tells c.new_label.new.to.labels (numbered c.args.d.now.labels c.in-Some.old []) c.in_ok-number-in-Some.number c.in_ok-number-in-Some.ensures.number
